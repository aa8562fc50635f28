-- What the lines so far say, as far as the next line is judged by it.
use Rattle.std.specs.Prelude.{ℕ, ◌+◌, ◌-◌, min, cond, List, [], ◌∷◌, ◌++◌, map, length, Some, None, Option}
use Rattle.std.proofs.Math.Nat.{min-le_right}
use Rattle.std.specs.Str.{bytes_eq}
use Rattle.weighing.specs.Charges.{Charge}
use Rattle.book.specs.Rows.{row_number}
use Rattle.lines.specs.declared.kind.Kind.{Kind}
use Rattle.lines.specs.declared.kind.Kind.TheVariants as kind
use Rattle.lines.specs.Told.{Told, locks, holders, table, row, differ, same, join, bar}
use Rattle.filing.specs.declared.record.RowRecord.{RowRecord}

-- the number of a name: its first place in the list
unfoldable pub place_of : List (List ℕ) → List ℕ → ℕ
place_of [] name = 0
place_of (n ∷ ns) name = cond (bytes_eq n name) 0 (place_of ns name + 1)

-- the numbers of names
abbrev pub places : List (List ℕ) → List (List ℕ) → List ℕ
places list ns = map (place_of list) ns

pub record Standing : Type 0 where
  -- the kind of the line before; None at the start
  pub before : Option Kind
  pub locks : List (List ℕ)
  pub holders : List (List ℕ)
  -- how many tables there are, rules counted, and how many locks the last one is about
  pub tables : ℕ
  pub width : ℕ
  -- how many rows there are, and the row number of the last one
  pub rows : ℕ
  pub last_row : ℕ
  -- how many joins there are
  pub joins : ℕ
  -- the lock and the holder of the last bar
  pub bar_lock : ℕ
  pub bar_holder : ℕ

abbrev pub at_start : Standing
at_start = record { before = None; locks = []; holders = []; tables = 0; width = 0; rows = 0; last_row = 0; joins = 0; bar_lock = 0; bar_holder = 0 }

-- the number of a row with these holders
abbrev pub row_of : Standing → List (List ℕ) → ℕ
row_of s ns = row_number (length s.holders) (places s.holders ns)

-- one table more, over so many locks
abbrev pub add_table : Standing → Kind → ℕ → Standing
add_table s k w = record { before = Some k; locks = s.locks; holders = s.holders; tables = s.tables + 1; width = w; rows = s.rows; last_row = s.last_row; joins = s.joins; bar_lock = s.bar_lock; bar_holder = s.bar_holder }

-- what stands after one line more
abbrev pub after : Standing → Told → Standing
after s (locks ns) = record { before = Some kind.Locks; locks = ns; holders = s.holders; tables = s.tables; width = s.width; rows = s.rows; last_row = s.last_row; joins = s.joins; bar_lock = s.bar_lock; bar_holder = s.bar_holder }
after s (holders ns) = record { before = Some kind.Holders; locks = s.locks; holders = ns; tables = s.tables; width = s.width; rows = s.rows; last_row = s.last_row; joins = s.joins; bar_lock = s.bar_lock; bar_holder = s.bar_holder }
after s (table ns) = add_table s kind.Table (length ns)
after s (row ns n) = record { before = Some kind.Row; locks = s.locks; holders = s.holders; tables = s.tables; width = s.width; rows = s.rows + 1; last_row = row_of s ns; joins = s.joins; bar_lock = s.bar_lock; bar_holder = s.bar_holder }
after s (differ ns n) = add_table s kind.Differ (length ns)
after s (same ns n) = add_table s kind.Same (length ns)
after s (join m n) = record { before = Some kind.Join; locks = s.locks; holders = s.holders; tables = s.tables; width = s.width; rows = s.rows; last_row = s.last_row; joins = s.joins + 1; bar_lock = s.bar_lock; bar_holder = s.bar_holder }
after s (bar l h) = record { before = Some kind.Bar; locks = s.locks; holders = s.holders; tables = s.tables; width = s.width; rows = s.rows; last_row = s.last_row; joins = s.joins; bar_lock = place_of s.locks l; bar_holder = place_of s.holders h }

-- what stands after lines
abbrev pub after_all : Standing → List Told → Standing
after_all s [] = s
after_all s (t ∷ ts) = after_all (after s t) ts

-- the charge of a number, which in a line is at most a million
abbrev pub charge_of : ℕ → Charge
charge_of n = record { value = min n 1000000; small = min-le_right n 1000000 }

-- the record of a row: it is one of the last table
abbrev pub record_of : Standing → List (List ℕ) → ℕ → RowRecord
record_of s ns n = record { table = s.tables - 1; row = row_of s ns; charge = charge_of n }

-- the records of a line: of a row its own, of any other none
abbrev pub line_rows : Standing → Told → List RowRecord
line_rows s (locks ns) = []
line_rows s (holders ns) = []
line_rows s (table ns) = []
line_rows s (row ns n) = record_of s ns n ∷ []
line_rows s (differ ns n) = []
line_rows s (same ns n) = []
line_rows s (join m n) = []
line_rows s (bar l h) = []

-- the records of lines, in their order
abbrev pub all_rows : Standing → List Told → List RowRecord
all_rows s [] = []
all_rows s (t ∷ ts) = line_rows s t ++ all_rows (after s t) ts
