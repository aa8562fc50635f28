use Rattle.std.specs.Prelude.{◌≡◌, ℕ, cond, ◌⊎◌, ◌≢◌, nat_eq, refl, Option, None, Some}
use Rattle.std.proofs.Common.{sym, ap, inl, inr, ⊎_elim, arith, eq-eqb, eqb-true}
use Rattle.std.proofs.lemmas.Bool.{cases_lt}
use Rattle.weighing.specs.Capping.{capped_eq, new_is, beyond}
use Rattle.weighing.specs.Costs.{Amount, amount, cost, cheaper_amount, sum_amount, stored, loaded, costs}
use Rattle.std.specs.Option.{option_eq}
use Rattle.weighing.specs.Laws.{Lawful}
use Rattle.weighing.specs.Tests.{Tells}

-- `omega` decides each equation between the values
some_eq : (x y : Amount) → x.value ≡ y.value → Some x ≡ Some y
some_eq x y e = ap Some (capped_eq x y e)

either_assoc : (a b c : Option Amount) → cheaper_amount (cheaper_amount a b) c ≡ cheaper_amount a (cheaper_amount b c)
either_assoc None b c = refl
either_assoc (Some x) None c = refl
either_assoc (Some x) (Some y) None = refl
either_assoc (Some x) (Some y) (Some z) = some_eq _ _ (omega arith)

either_comm : (a b : Option Amount) → cheaper_amount a b ≡ cheaper_amount b a
either_comm None None = refl
either_comm None (Some y) = refl
either_comm (Some x) None = refl
either_comm (Some x) (Some y) = some_eq _ _ (omega arith)

both_assoc : (a b c : Option Amount) → sum_amount (sum_amount a b) c ≡ sum_amount a (sum_amount b c)
both_assoc None b c = refl
both_assoc (Some x) None c = refl
both_assoc (Some x) (Some y) None = refl
both_assoc (Some x) (Some y) (Some z) = some_eq _ _ (omega arith)

both_comm : (a b : Option Amount) → sum_amount a b ≡ sum_amount b a
both_comm None None = refl
both_comm None (Some y) = refl
both_comm (Some x) None = refl
both_comm (Some x) (Some y) = some_eq _ _ (omega arith)

both_free : (a : Option Amount) → sum_amount (Some (amount 0)) a ≡ a
both_free None = refl
both_free (Some y) = some_eq _ _ (omega arith)

distributes : (a b c : Option Amount) → sum_amount a (cheaper_amount b c) ≡ cheaper_amount (sum_amount a b) (sum_amount a c)
distributes None b c = refl
distributes (Some x) None c = refl
distributes (Some x) (Some y) None = refl
distributes (Some x) (Some y) (Some z) = some_eq _ _ (omega arith)

selects : (a b : Option Amount) → (cheaper_amount a b ≡ a) ⊎ (cheaper_amount a b ≡ b)
selects None b = inr refl
selects (Some x) None = inl refl
selects (Some x) (Some y) =
    elim (cases_lt x.value y.value) [ inl h ↦ inl (some_eq _ _ (omega arith)) | inr h ↦ inr (some_eq _ _ (omega arith)) ]

no_cancel : (a b : Option Amount) → sum_amount a b ≡ None → (a ≡ None) ⊎ (b ≡ None)
no_cancel None b e = inl refl
no_cancel (Some x) None e = inr refl
no_cancel (Some x) (Some y) e = let z : ◌≡◌ {A = ℕ} 0 1 = cc in absurd (omega arith)

each_side : {P Q R S : Type 0} → (P → R) → (Q → S) → P ⊎ Q → R ⊎ S
each_side f g e = ⊎_elim (λ p. inl (f p)) (λ q. inr (g q)) e

back : (a : Option Amount) → loaded (stored (cost a)) ≡ cost a
back None = refl
back (Some x) = ap cost (sym (new_is x.value (Some x) refl))

-- an amount is never none
weighed_some : (x : Amount) → Some x ≢ None
weighed_some x e = let z : ◌≡◌ {A = ℕ} 0 1 = cc in omega arith

pub cost_laws : Lawful costs
cost_laws = record {
  semiring = record {
    either_assoc = λ a b c. ap cost (either_assoc a.amount b.amount c.amount);
    either_comm = λ a b. ap cost (either_comm a.amount b.amount);
    either_none = λ a. refl;
    both_assoc = λ a b c. ap cost (both_assoc a.amount b.amount c.amount);
    both_comm = λ a b. ap cost (both_comm a.amount b.amount);
    both_free = λ a. ap cost (both_free a.amount);
    both_none = λ a. refl;
    distributes = λ a b c. ap cost (distributes a.amount b.amount c.amount);
  };
  no_cancel = λ a b e. each_side (ap cost) (ap cost) (no_cancel a.amount b.amount (ap (λ w. w.amount) e));
  selects = λ a b. each_side (ap cost) (ap cost) (selects a.amount b.amount);
  some = λ c e. weighed_some (amount c.value) (ap (λ w. w.amount) e);
  back = λ a. back a.amount;
  stray = λ n no_weight. ap (λ b. cost (cond b (Some (amount n)) None)) (beyond n (λ x. no_weight (cost (Some x))));
}

-- two costs are told equal exactly where their amounts are
pub cost_decides : (a b : Option Amount) → Tells (cost a ≡ cost b) (option_eq (λ x y. nat_eq x.value y.value) a b)
cost_decides None None = record { sound = λ _. refl; full = λ _. refl }
cost_decides None (Some y) = record { sound = λ h. cc; full = λ e. let p : None ≡ Some y = ap (λ w. w.amount) e in cc }
cost_decides (Some x) None = record { sound = λ h. cc; full = λ e. let p : Some x ≡ None = ap (λ w. w.amount) e in cc }
cost_decides (Some x) (Some y) = record {
  sound = λ h. ap cost (some_eq x y (eqb-true x.value y.value h));
  full = λ e. let p : Some x ≡ Some y = ap (λ w. w.amount) e in let q : x ≡ y = cc in eq-eqb x.value y.value (ap (λ z. z.value) q);
}
