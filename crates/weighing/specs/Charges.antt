use Rattle.std.specs.Prelude.{◌≡◌, ℕ, ◌≤◌}
use Rattle.weighing.specs.Capping.{capped_eq}
use Rattle.weighing.specs.declared.capped.Capped.{Capped}

-- a charge: a number from 0 to 1,000,000
abbrev pub Charge : Type 0
Charge = Capped 1000000

-- the charge of a number in range
abbrev pub charge : (n : ℕ) → n ≤ 1000000 → Charge
charge n h = record { value = n; small = h }

-- two charges of one value are one
pub charge_eq : (x y : Charge) → x.value ≡ y.value → x ≡ y
charge_eq x y e = capped_eq x y e
