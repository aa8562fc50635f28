-- When a line is refused: the numbered conditions that a line can meet.
use Rattle.std.specs.Prelude.{◌≡◌, ℕ, ◌<◌, ◌≤◌, false, ◌⊎◌, List, [], length, get_or, Some, ◌≢◌, slice_index_or}
use Rattle.book.specs.Lists.{Rising}
use Rattle.book.specs.Refusals.{record_number}
use Rattle.book.specs.declared.refusal.RecordCause.{RecordCause}
use Rattle.book.specs.declared.refusal.RecordCause.TheVariants.{Misplaced, TooMany, WrongName, NotRising, NoRoom}
use Rattle.lines.specs.Names.{Absent}
use Rattle.lines.specs.Told.{Told, locks, holders, table, row, differ, same, join, bar, kind_of}
use Rattle.lines.specs.declared.kind.Kind.TheVariants as kind
use Rattle.filing.specs.declared.record.RowRecord.{RowRecord}
use Rattle.filing.specs.Follows.{may_follow}
use Rattle.filing.specs.Standing.{Standing, place_of, places, row_of, record_of}

-- a name stands twice in the list
pub record Twice (ns : List (List ℕ)) : Type 0 where
  pub one : ℕ
  pub other : ℕ
  pub apart : one < other
  pub within : other < length ns
  pub equal : get_or ns one [] ≡ slice_index_or ns other []

-- at most so many names, none of them twice
pub record Lists (most : ℕ) (ns : List (List ℕ)) : Type 0 where
  pub few : length ns ≤ most
  pub apart : Twice ns → ⊥

-- the first cause why names are not that
abbrev pub Unlists : RecordCause → ℕ → List (List ℕ) → Type 0
Unlists Misplaced most ns = ⊥
Unlists TooMany most ns = most < length ns
Unlists WrongName most ns = (length ns ≤ most) × Twice ns
Unlists NotRising most ns = ⊥
Unlists NoRoom most ns = ⊥

-- one of the names is not in the list
pub record Unlisted (list ns : List (List ℕ)) : Type 0 where
  pub place : ℕ
  pub within : place < length ns
  pub absent : Absent list (slice_index_or ns place [])

-- too many names, tables or joins
abbrev pub HasTooMany : Standing → Told → Type 0
HasTooMany s (locks ns) = 64 < length ns
HasTooMany s (holders ns) = 16 < length ns
HasTooMany s (table ns) = 64 ≤ s.tables
HasTooMany s (row ns n) = ⊥
HasTooMany s (differ ns n) = 64 ≤ s.tables
HasTooMany s (same ns n) = 64 ≤ s.tables
HasTooMany s (join m n) = 63 ≤ s.joins
HasTooMany s (bar l h) = ⊥

-- a name twice in its list, or one that is mentioned and not listed
abbrev pub HasWrongName : Standing → Told → Type 0
HasWrongName s (locks ns) = Twice ns
HasWrongName s (holders ns) = Twice ns
HasWrongName s (table ns) = Unlisted s.locks ns
HasWrongName s (row ns n) = Unlisted s.holders ns
HasWrongName s (differ ns n) = Unlisted s.locks ns
HasWrongName s (same ns n) = Unlisted s.locks ns
HasWrongName s (join m n) = ⊥
HasWrongName s (bar l h) = Absent s.locks l ⊎ Absent s.holders h

-- the scope's locks do not rise
abbrev pub Falls : Standing → List (List ℕ) → Type 0
Falls s ns = Rising (places s.locks ns) → ⊥

-- a row that has not a holder for each lock, or is not above the row before it in its table
abbrev pub RowFalls : Standing → List (List ℕ) → Type 0
RowFalls s ns = (length ns ≢ s.width) ⊎ ((s.before ≡ Some kind.Row) × (row_of s ns ≤ s.last_row))

-- a pair that is not above another, the lock counting before the holder
abbrev pub NotAbove : ℕ → ℕ → ℕ → ℕ → Type 0
NotAbove lock holder last_lock last_holder = (lock < last_lock) ⊎ ((lock ≡ last_lock) × (holder ≤ last_holder))

-- a bar that is not above the bar before it
abbrev pub BarFalls : Standing → List ℕ → List ℕ → Type 0
BarFalls s l h = (s.before ≡ Some kind.Bar) × NotAbove (place_of s.locks l) (place_of s.holders h) s.bar_lock s.bar_holder

abbrev pub IsNotRising : Standing → Told → Type 0
IsNotRising s (locks ns) = ⊥
IsNotRising s (holders ns) = ⊥
IsNotRising s (table ns) = Falls s ns
IsNotRising s (row ns n) = RowFalls s ns
IsNotRising s (differ ns n) = Falls s ns
IsNotRising s (same ns n) = Falls s ns
IsNotRising s (join m n) = ⊥
IsNotRising s (bar l h) = BarFalls s l h

-- `Bad k r` says that the row list has no place for r as its k-th row, or another row there
abbrev pub HasNoRoom : (ℕ → RowRecord → Type 0) → Standing → Told → Type 0
HasNoRoom Bad s (locks ns) = ⊥
HasNoRoom Bad s (holders ns) = ⊥
HasNoRoom Bad s (table ns) = ⊥
HasNoRoom Bad s (row ns n) = Bad s.rows (record_of s ns n)
HasNoRoom Bad s (differ ns n) = ⊥
HasNoRoom Bad s (same ns n) = ⊥
HasNoRoom Bad s (join m n) = ⊥
HasNoRoom Bad s (bar l h) = ⊥

-- the condition of each cause
abbrev pub Met : (ℕ → RowRecord → Type 0) → RecordCause → Standing → Told → Type 0
Met Bad Misplaced s t = may_follow s.before (kind_of t) ≡ false
Met Bad TooMany s t = HasTooMany s t
Met Bad WrongName s t = HasWrongName s t
Met Bad NotRising s t = IsNotRising s t
Met Bad NoRoom s t = HasNoRoom Bad s t

-- the line meets the condition of the cause, and none with a smaller number
pub record FirstMet (Bad : ℕ → RowRecord → Type 0) (cause : RecordCause) (s : Standing) (t : Told) : Type 0 where
  pub met : Met Bad cause s t
  pub first : (c : RecordCause) → record_number c < record_number cause → Met Bad c s t → ⊥

-- the line meets no condition
abbrev pub Passes : (ℕ → RowRecord → Type 0) → Standing → Told → Type 0
Passes Bad s t = (c : RecordCause) → Met Bad c s t → ⊥
