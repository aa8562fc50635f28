-- Weights under two operations: `either` of two weights is what they come to as alternatives (the plus of a
-- semiring), `both` what they come to together (its times). `none` is the weight of what cannot be (zero),
-- `free` the weight that changes nothing (one).
use Rattle.std.specs.Prelude.{◌≡◌, List, [], ◌∷◌}

pub record Operations (W : Type 0) : Type 0 where
  pub none : W
  pub free : W
  pub either : W → W → W
  pub both : W → W → W

-- The laws of a commutative semiring: all that sums and products of weights need.
pub record Semiring {W : Type 0} (o : Operations W) : Type 0 where
  pub either_assoc : (x y z : W) → o.either (o.either x y) z ≡ o.either x (o.either y z)
  pub either_comm : (x y : W) → o.either x y ≡ o.either y x
  pub either_none : (x : W) → o.either o.none x ≡ x
  pub both_assoc : (x y z : W) → o.both (o.both x y) z ≡ o.both x (o.both y z)
  pub both_comm : (x y : W) → o.both x y ≡ o.both y x
  pub both_free : (x : W) → o.both o.free x ≡ x
  pub both_none : (x : W) → o.both o.none x ≡ o.none
  pub distributes : (x y z : W) → o.both x (o.either y z) ≡ o.either (o.both x y) (o.both x z)

module _ {W : Type 0} (o : Operations W) where
  -- the either over a list of weights; over no weights it is none
  unfoldable pub either_over : List W → W
  either_over [] = o.none
  either_over (w ∷ ws) = o.either w (either_over ws)

  -- the both over a list of weights; over no weights it is free
  unfoldable pub both_over : List W → W
  both_over [] = o.free
  both_over (w ∷ ws) = o.both w (both_over ws)

  -- a is better than b: they differ, and their either is a
  pub record Better (a b : W) : Type 0 where
    pub differ : a ≡ b → ⊥
    pub wins : o.either a b ≡ a
