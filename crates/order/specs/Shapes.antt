-- The shape of a book: its numbers and scopes, without the charges.
use Rattle.std.specs.Prelude.{◌≡◌, ℕ, ◌<◌, ◌≤◌, [], length}
use Rattle.book.specs.Books.{Meaning}
use Rattle.book.specs.Lists.{Rising, Below}
use Rattle.aggregation.specs.Nets.{Shape}

-- the shape of what a book means
abbrev pub shape_of : Meaning → Shape
shape_of m = record { locks = m.locks; holders = m.holders; tables = m.tables; scope = m.scope }

-- the ranges that every book's shape keeps to
pub record Bounded (s : Shape) : Type 0 where
  pub some_lock : 0 < s.locks
  pub few_locks : s.locks ≤ 64
  pub some_holder : 0 < s.holders
  pub few_holders : s.holders ≤ 16
  pub few_tables : s.tables ≤ 64
  pub some_scope : (t : ℕ) → t < s.tables → 0 < length (s.scope t)
  pub short_scope : (t : ℕ) → length (s.scope t) ≤ 4
  pub rising : (t : ℕ) → Rising (s.scope t)
  pub below : (t : ℕ) → Below s.locks (s.scope t)
  pub no_scope : (t : ℕ) → s.tables ≤ t → s.scope t ≡ []
