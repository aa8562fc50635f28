-- A number of the format: in base ten, without leading zeros, at most a million.
use Rattle.std.specs.Prelude.{◌≡◌, ℕ, ◌≤◌, List, decimal}

-- the bytes are the one spelling of n
pub record Spelled (n : ℕ) (bytes : List ℕ) : Type 0 where
  pub small : n ≤ 1000000
  pub is : bytes ≡ decimal n
