-- The scopes of a shape, as tables are added.
use Rattle.std.proofs.Common.{◌≡◌, ℕ, zero, suc, ◌+◌, ◌<◌, ◌≤◌, List, arith, [], map, length, get_or, set, replicate, sym, refl, ap, ◌∙◌, subst, inl, inr}
use Rattle.std.proofs.lemmas.List.{length-map, get_or-map, get_or_past, get_or-set_same, get_or-set_other, map-set}
use Rattle.std.proofs.lemmas.Bool.{cases_eq, cases_lt}
use Rattle.book.specs.Scopes.{named}
use Rattle.book.specs.declared.scope.Scope.{Scope}
use Rattle.book.specs.Shapes.{scope_at}

pub scope_read : (ss : List Scope) (t : ℕ) (s : Scope) → t < length ss → scope_at ss t ≡ named (get_or ss t s)
scope_read ss t s h = get_or-map named ss t s [] h

pub scope_past : (ss : List Scope) (t : ℕ) → length ss ≤ t → scope_at ss t ≡ []
scope_past ss t h = get_or_past (map named ss) t [] (rw (length-map ss named) h)

-- no locks at any place of a list of empty scopes
pub scope_none : (n : ℕ) (s : Scope) → named s ≡ [] → (t : ℕ) → scope_at (replicate n s) t ≡ []
scope_none zero s e t = refl
scope_none (suc n) s e zero = e
scope_none (suc n) s e (suc t) = scope_none n s e t

module _ (ss : List Scope) (i : ℕ) (s : Scope) where
  -- at the place that was set, and elsewhere
  pub scope_set : i < length ss → scope_at (set ss i s) i ≡ named s
  scope_set h = ap (λ xs. get_or xs i []) (map-set named ss i s) ∙ get_or-set_same (map named ss) i (named s) [] (rw (length-map ss named) h)

  pub scope_other : (t : ℕ) → (t ≡ i → ⊥) → scope_at (set ss i s) t ≡ scope_at ss t
  scope_other t n = ap (λ xs. get_or xs t []) (map-set named ss i s) ∙ get_or-set_other (map named ss) i t (named s) [] n

  -- what holds of the new locks and of each scope that stays, holds of each
  pub scope_each : (P : List ℕ → Type 0) (t : ℕ) → i < length ss → (t ≡ i → P (named s)) → ((t ≡ i → ⊥) → P (scope_at ss t)) → P (scope_at (set ss i s) t)
  scope_each P t h here there = elim (cases_eq t i) [
    | inl e ↦ subst P (sym (ap (scope_at (set ss i s)) e ∙ scope_set h)) (here e)
    | inr n ↦ subst P (sym (scope_other t n)) (there n)
  ]

-- one more scope as m says, and all of them, with none where m has none
pub scopes_more : (m : ℕ → List ℕ) (ss : List Scope) (i : ℕ) (s : Scope) → i < length ss → named s ≡ m i → ((t : ℕ) → t < i → scope_at ss t ≡ m t) → (t : ℕ) → t < i + 1 → scope_at (set ss i s) t ≡ m t
scopes_more m ss i s h e before t l = elim (cases_eq t i) [
  | inl p ↦ subst (λ k. scope_at (set ss i s) k ≡ m k) (sym p) (scope_set ss i s h ∙ e)
  | inr n ↦ scope_other ss i s t n ∙ before t (omega arith)
]

pub scopes_all : (m : ℕ → List ℕ) (ss : List Scope) (n : ℕ) → length ss ≤ n → ((t : ℕ) → t < n → scope_at ss t ≡ m t) → ((t : ℕ) → n ≤ t → m t ≡ []) → (t : ℕ) → scope_at ss t ≡ m t
scopes_all m ss n h before past t = elim (cases_lt t n) [ inl l ↦ before t l | inr l ↦ scope_past ss t (omega arith) ∙ sym (past t l) ]
