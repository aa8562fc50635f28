use Rattle.std.specs.Prelude.{◌≡◌, ◌+◌, min, cond, ◌⊎◌, ◌≢◌, nat_eq}
use Rattle.std.proofs.Common.{ap, ◌∙◌, inl, inr, arith, eq-eqb, eqb-true}
use Rattle.std.proofs.lemmas.Bool.{cases_lt}
use Rattle.weighing.specs.Laws.{Lawful}
use Rattle.weighing.specs.Tests.{Tells}
use Rattle.weighing.specs.Capping.{capped_eq, within, beyond}
use Rattle.weighing.specs.Charges.{Charge}
use Rattle.weighing.specs.Grades.{Grade, grade, higher, lower, grades}

selects : (x y : Grade) → (higher x y ≡ x) ⊎ (higher x y ≡ y)
selects x y =
    elim (cases_lt x.value y.value) [ inl h ↦ inr (capped_eq _ _ (omega arith)) | inr h ↦ inl (capped_eq _ _ (omega arith)) ]

no_cancel : (x y : Grade) → lower x y ≡ grade 0 → (x ≡ grade 0) ⊎ (y ≡ grade 0)
no_cancel x y e =
    let z : min (min x.value y.value) 1000001 ≡ 0 = ap (λ w. w.value) e in
    elim (cases_lt x.value y.value) [ inl h ↦ inl (capped_eq _ _ (omega arith)) | inr h ↦ inr (capped_eq _ _ (omega arith)) ]

some : (c : Charge) → grade (c.value + 1) ≢ grade 0
some c e = let z : min (c.value + 1) 1000001 ≡ 0 = ap (λ w. w.value) e in omega arith

-- each equation is one of the values, which `omega` decides
pub grade_laws : Lawful grades
grade_laws = record {
  semiring = record {
    either_assoc = λ x y z. capped_eq _ _ (omega arith);
    either_comm = λ x y. capped_eq _ _ (omega arith);
    either_none = λ x. capped_eq _ _ (omega arith);
    both_assoc = λ x y z. capped_eq _ _ (omega arith);
    both_comm = λ x y. capped_eq _ _ (omega arith);
    both_free = λ x. capped_eq _ _ (omega arith);
    both_none = λ x. capped_eq _ _ (omega arith);
    distributes = λ x y z. capped_eq _ _ (omega arith);
  };
  no_cancel = no_cancel;
  selects = selects;
  some = some;
  back = λ x. ap (λ b. cond b (grade x.value) (grade 0)) (within x) ∙ capped_eq _ _ (omega arith);
  stray = λ n no_weight. ap (λ b. cond b (grade n) (grade 0)) (beyond n no_weight);
}

-- two grades are told equal exactly where their values are
pub grade_decides : (x y : Grade) → Tells (x ≡ y) (nat_eq x.value y.value)
grade_decides x y = record { sound = λ h. capped_eq x y (eqb-true x.value y.value h); full = λ e. eq-eqb x.value y.value (ap (λ w. w.value) e) }
