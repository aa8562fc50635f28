-- Numbers with a largest one: charges, finite costs and grades are such.
use Rattle.std.specs.Prelude.{◌≡◌, ℕ, ◌<◌, ◌≤◌, ◌≢◌, min, true, false, cond, nat_le, Option, None, Some, MatchOption}
use mathlib.Core.HLevel.{is_prop→PathP}
use Rattle.std.proofs.Common.{arith, inl, inr, sym, ap, ◌∙◌, le-leb}
use Rattle.std.proofs.lemmas.Bool.{lt-leb, cases_lt}
use Rattle.std.proofs.Math.Bridge.{le_prop}
use Rattle.weighing.specs.declared.capped.Capped.{Capped}

-- a number, cut to the largest
abbrev pub cut : (most n : ℕ) → Capped most
cut most n = record { value = min n most; small = omega arith }

module _ {most : ℕ} where
  -- two values of one number are one value, whatever shows their range
  pub capped_eq : (x y : Capped most) → x.value ≡ y.value → x ≡ y
  capped_eq x y e = λ i. record { value = e i; small = is_prop→PathP (λ k. e k ≤ most) (λ k. le_prop) x.small y.small i }

  pub cut_is : (x : Capped most) (n : ℕ) → x.value ≡ min n most → x ≡ cut most n
  cut_is x n e = capped_eq x (cut most n) e

  -- the test of the range says yes of a value's number, and no of a number that no value has
  pub within : (x : Capped most) → nat_le x.value most ≡ true
  within x = le-leb x.value most (omega arith)

  pub beyond : (n : ℕ) → ((x : Capped most) → x.value ≢ n) → nat_le n most ≡ false
  beyond n no_value =
      elim (cases_lt most n) [ inl h ↦ lt-leb n most h | inr h ↦ absurd (no_value (cut most n) (omega arith)) ]

  -- what is made of a number in range, and of no other, is the number cut
  pub new_is : (n : ℕ) (o : Option (Capped most)) → MatchOption o (most < n) (λ c. c.value ≡ n) → o ≡ cond (nat_le n most) (Some (cut most n)) None
  new_is n None h = ap (λ b. cond b (Some (cut most n)) None) (sym (lt-leb n most h))
  new_is n (Some c) e =
      ap Some (cut_is c n (omega arith)) ∙ ap (λ b. cond b (Some (cut most n)) None) (sym (le-leb n most (omega arith)))
