-- What rules say of rows.
use Rattle.std.proofs.Common.{◌≡◌, ℕ, ◌+◌, ◌*◌, ◌/◌, ◌%◌, ◌^◌, ◌<◌, true, false, cond, eqb, List, [], ◌∷◌, map, length, get_or, set, Some, None, Option, sym, ap, ◌∙◌, subst, inl, inr, one-mul, pow-suc, mul-one, arith}
use native.Mathlib.Nat.{pow-zero}
use Rattle.std.proofs.lemmas.Nat.{div-mul-add, mod-mul-add}
use Rattle.std.proofs.lemmas.List.{length-map, get_or-map, get_or-set_same, get_or-set_other, map-set}
use Rattle.std.proofs.lemmas.Bool.{lt-ltb, eq-eqb, ne_eqb, eqb-false, not_from_true, not_from_false, and_from, cases_Bool, cond-true, cond-false}
use Rattle.weighing.specs.Charges.{Charge}
use Rattle.book.specs.Lists.{Below}
use Rattle.book.specs.Rows.{row_number}
use Rattle.book.proofs.Numbers.{below_cons, rows_numbered}
use Rattle.filing.specs.declared.rule.RuleForm.{RuleForm}
use Rattle.filing.specs.declared.rule.RuleForm.TheVariants.{Differ, Same}
use Rattle.filing.specs.declared.rule.Rule.{Rule}
use Rattle.book.specs.Shapes.{scope_at}
use Rattle.book.specs.BookShapes.{has_row}
use Rattle.filing.specs.Rules.{permits, Permits, ruled, rule_at, by_rules, RowsRuled}

pub rule_read : (rs : List Rule) (t : ℕ) (r : Rule) (H row : ℕ) → t < length rs → rule_at rs t H row ≡ ruled (get_or rs t r) H row
rule_read rs t r H row h = ap (λ f. f H row) (get_or-map ruled rs t r (λ H row. None) h)

-- at the place that was set, and elsewhere
module _ (rs : List Rule) (i : ℕ) (r : Rule) where
  pub rule_set : (H row : ℕ) → i < length rs → rule_at (set rs i r) i H row ≡ ruled r H row
  rule_set H row h = ap (λ (fs : List (ℕ → ℕ → Option Charge)). get_or fs i (λ H row. None) H row) (map-set ruled rs i r) ∙ ap (λ (f : ℕ → ℕ → Option Charge). f H row) (get_or-set_same (map ruled rs) i (ruled r) (λ H row. None) (rw (length-map rs ruled) h))

  pub rule_other : (t H row : ℕ) → (t ≡ i → ⊥) → rule_at (set rs i r) t H row ≡ rule_at rs t H row
  rule_other t H row n = ap (λ (fs : List (ℕ → ℕ → Option Charge)). get_or fs t (λ H row. None) H row) (map-set ruled rs i r) ∙ ap (λ (f : ℕ → ℕ → Option Charge). f H row) (get_or-set_other (map ruled rs) i t (ruled r) (λ H row. None) n)

-- the test of a form tells whether two holders are as it wants
permits_true : (f : RuleForm) (a b : ℕ) → Permits f a b → permits f a b ≡ true
permits_true Differ a b n = not_from_false _ (ne_eqb a b n)
permits_true Same a b e = eq-eqb a b e

permits_false : (f : RuleForm) (a b : ℕ) → (Permits f a b → ⊥) → permits f a b ≡ false
permits_false Differ a b n = elim (cases_Bool (eqb a b)) [ inl e ↦ not_from_true _ e | inr e ↦ absurd (n (eqb-false a b e)) ]
permits_false Same a b n = ne_eqb a b n

-- the row number of two holders
pair_number : (H a b : ℕ) → row_number H (a ∷ b ∷ []) ≡ a * H + b
unfolding row_number
pair_number H a b =
    let one : H ^ 1 ≡ H = pow-suc H 0 ∙ ap (λ n. n * H) (pow-zero H) ∙ one-mul H in
    let ones : b * H ^ 0 ≡ b = ap (λ n. b * n) (pow-zero H) ∙ mul-one b in
    (λ i. a * one i + (ones i + 0)) ∙ omega arith

pub rows_ruled : RowsRuled
rows_ruled q t r h k e a b ha hb =
    let H = q.shape.holders in
    let n = row_number H (a ∷ b ∷ []) in
    let two = q.pairs t h in
    let first : n / H ≡ a = ap (λ x. x / H) (pair_number H a b) ∙ div-mul-add a H b hb in
    let second : n % H ≡ b = ap (λ x. x % H) (pair_number H a b) ∙ mod-mul-add a H b hb in
    let below : Below H (a ∷ b ∷ []) = below_cons H a (b ∷ []) ha (below_cons H b [] hb (λ i l. absurd (omega arith))) in
    let small : n < H ^ length (scope_at q.shape.scopes t) = subst (λ w. n < H ^ w) (sym two) ((rows_numbered H q.shape.some_holder).small (a ∷ b ∷ []) below) in
    let inside : has_row q.shape t n ≡ true = and_from _ _ (lt-ltb t q.shape.tables h) (lt-ltb n _ small) in
    let charge : (by_rules q).charge t n ≡ cond (permits r.form a b) (Some r.charge) None =
    cond-true _ (rule_at q.rules t H n) None inside ∙ rule_read q.rules t r H n k ∙ ap (λ x. ruled x H n) (sym e) ∙ (λ i. cond (permits r.form (first i) (second i)) (Some r.charge) None) in
    record {
      pair = two;
      permitted = λ p. charge ∙ cond-true _ (Some r.charge) None (permits_true r.form a b p);
      absent = λ p. charge ∙ cond-false _ (Some r.charge) None (permits_false r.form a b p);
    }
