-- What a book means, and the ranges that every book keeps to.
use Rattle.std.specs.Prelude.{◌≡◌, ℕ, ◌^◌, ◌<◌, ◌≤◌, List, [], length, None, Option}
use Rattle.weighing.specs.Charges.{Charge}
use Rattle.book.specs.Lists.{Rising, Below}

-- Locks, holders and tables are numbered from 0. A table's row number is its holders read as digits of base
-- `holders`, the digit of the scope's first lock leading.
pub record Meaning : Type 0 where
  pub locks : ℕ
  pub holders : ℕ
  pub tables : ℕ
  pub scope : ℕ → List ℕ
  -- the charge of a table's row, or its absence
  pub charge : ℕ → ℕ → Option Charge

pub record Ranged (m : Meaning) : Type 0 where
  pub some_lock : 0 < m.locks
  pub few_locks : m.locks ≤ 64
  pub some_holder : 0 < m.holders
  pub few_holders : m.holders ≤ 16
  pub few_tables : m.tables ≤ 64
  -- each scope has one to four locks of the book, rising; beyond the tables there is none
  pub some_scope : (t : ℕ) → t < m.tables → 0 < length (m.scope t)
  pub short_scope : (t : ℕ) → length (m.scope t) ≤ 4
  pub rising : (t : ℕ) → Rising (m.scope t)
  pub below : (t : ℕ) → Below m.locks (m.scope t)
  pub no_scope : (t : ℕ) → m.tables ≤ t → m.scope t ≡ []
  -- beyond the tables, and beyond a table's rows, every row is absent
  pub no_table : (t row : ℕ) → m.tables ≤ t → m.charge t row ≡ None
  pub no_row : (t row : ℕ) → m.holders ^ length (m.scope t) ≤ row → m.charge t row ≡ None
