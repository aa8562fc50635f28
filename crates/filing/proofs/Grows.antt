-- A book that a table was added to.
use Rattle.std.proofs.Common.{◌≡◌, ℕ, ◌^◌, ◌<◌, true, cond, ◌&&◌, ltb, length, None, Option, sym, ap, ◌∙◌, arith}
use Rattle.std.proofs.lemmas.Bool.{lt-ltb, and_from, cond-true}
use Rattle.weighing.specs.Charges.{Charge}
use Rattle.book.specs.Scopes.{named}
use Rattle.book.specs.declared.scope.Scope.{Scope}
use Rattle.book.specs.declared.shape.BookShape.{BookShape}
use Rattle.book.specs.Shapes.{scope_at}
use Rattle.book.specs.BookShapes.{has_row, over_shape, OneMore}
use Rattle.filing.specs.Shapes.{Grown}
use Rattle.book.proofs.Shaped.{scope_set, scope_other}

module _ (s n : BookShape) (scope : Scope) (m : OneMore s n scope) where
  old_scope : (t : ℕ) → t < s.tables → scope_at n.scopes t ≡ scope_at s.scopes t
  old_scope t h = ap (λ ss. scope_at ss t) m.scopes ∙ scope_other s.scopes s.tables scope t (λ e. omega arith)

  new_scope : scope_at n.scopes s.tables ≡ named scope
  new_scope = ap (λ ss. scope_at ss s.tables) m.scopes ∙ scope_set s.scopes s.tables scope m.room

  old_row : (t row : ℕ) → t < s.tables → has_row n t row ≡ has_row s t row
  old_row t row h =
      let in_both : ltb t n.tables ≡ ltb t s.tables = lt-ltb t n.tables (omega (arith, m.tables)) ∙ sym (lt-ltb t s.tables h) in
      λ i. in_both i && ltb row (m.holders i ^ length (old_scope t h i))

  new_row : (row : ℕ) → row < s.holders ^ length (named scope) → has_row n s.tables row ≡ true
  new_row row h =
      let rows : n.holders ^ length (scope_at n.scopes s.tables) ≡ s.holders ^ length (named scope) = λ i. m.holders i ^ length (new_scope i) in
      and_from _ _ (lt-ltb s.tables n.tables (omega (arith, m.tables))) (lt-ltb row _ (rw rows h))

  -- the charges f of the old tables stay, and g charges the new one
  pub grown : (f g : ℕ → ℕ → Option Charge) (charge : ℕ → Option Charge) → ((t row : ℕ) → t < s.tables → g t row ≡ f t row) → ((row : ℕ) → g s.tables row ≡ charge row) → Grown (over_shape s f) (over_shape n g) (named scope) charge
  grown f g charge old new = record {
    locks = m.locks;
    holders = m.holders;
    tables = m.tables;
    old_scope = old_scope;
    old_charge = λ t row h. λ i. cond (old_row t row h i) (old t row h i) None;
    new_scope = new_scope;
    new_charge = λ row h. cond-true _ (g s.tables row) None (new_row row h) ∙ new row;
  }
