-- What a weighing is, and what it has to show.
use Rattle.std.specs.Prelude.{◌≡◌, ◌⊎◌, ◌≢◌}
use Rattle.weighing.specs.Semirings.{Operations, Semiring}
use Rattle.weighing.specs.Charges.{Charge}

-- Weights W, and the plain values P that lie in cells and outputs in their place.
pub record Algebra (W P : Type 0) : Type 0 where
  pub ops : Operations W
  -- the weight of a row with this charge
  pub weighed : Charge → W
  -- the plain value of a weight, and the weight of a plain value
  pub plain : W → P
  pub read : P → W

pub record Lawful {W P : Type 0} (a : Algebra W P) : Type 0 where
  -- the laws that a sum needs
  pub semiring : Semiring a.ops
  -- both gives none only where one of its two is none (that it then does is a law of the semiring)
  pub no_cancel : (x y : W) → a.ops.both x y ≡ a.ops.none → (x ≡ a.ops.none) ⊎ (y ≡ a.ops.none)
  -- either gives one of its two
  pub selects : (x y : W) → (a.ops.either x y ≡ x) ⊎ (a.ops.either x y ≡ y)
  -- weigh never gives none
  pub some : (c : Charge) → a.weighed c ≢ a.ops.none
  -- a weight's plain value gives that weight back
  pub back : (w : W) → a.read (a.plain w) ≡ w
  -- a plain value that is no weight's gives none
  pub stray : (p : P) → ((w : W) → a.plain w ≢ p) → a.read p ≡ a.ops.none
