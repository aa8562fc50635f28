-- A book that a table was added to.
use Rattle.std.specs.Prelude.{◌≡◌, ℕ, ◌+◌, ◌^◌, ◌<◌, List, length, Option}
use Rattle.weighing.specs.Charges.{Charge}
use Rattle.book.specs.Books.{Meaning}

-- A book that a table over the locks xs, charged as said, was added to: its other tables are as they were.
pub record Grown (m n : Meaning) (xs : List ℕ) (charge : ℕ → Option Charge) : Type 0 where
  pub locks : n.locks ≡ m.locks
  pub holders : n.holders ≡ m.holders
  pub tables : n.tables ≡ m.tables + 1
  pub old_scope : (t : ℕ) → t < m.tables → n.scope t ≡ m.scope t
  pub old_charge : (t row : ℕ) → t < m.tables → n.charge t row ≡ m.charge t row
  pub new_scope : n.scope m.tables ≡ xs
  pub new_charge : (row : ℕ) → row < m.holders ^ length xs → n.charge m.tables row ≡ charge row
