-- The statements. They are not proved yet: no function's contract names them.
use Rattle.std.specs.Prelude.{◌≡◌, ℕ, ◌+◌, ◌<◌, ◌≤◌, Bool, true, List, [], ◌∷◌, ◌++◌, length, None}
use Rattle.std.specs.List.{AllByRecursion}
use Rattle.book.specs.Books.{Meaning, Ranged}
use Rattle.book.specs.declared.refusal.RecordCause.TheVariants.{NoRoom}
use Rattle.aggregation.specs.declared.join.Join.{Join}
use Rattle.order.specs.Refusals.{order_refusal}
use Rattle.order.specs.Shapes.{shape_of}
use Rattle.lines.specs.Told.{Told, Good}
use Rattle.lines.specs.Texts.{spell_all}
use Rattle.filing.specs.declared.record.RowRecord.{RowRecord}
use Rattle.filing.specs.Contents.{rules_of, joins_of}
use Rattle.filing.specs.Follows.{may_end}
use Rattle.filing.specs.Meanings.{lock_names, holder_names}
use Rattle.filing.specs.Readers.{AnyRow}
use Rattle.filing.specs.Reading.{Full, AllPass, Accepted, Refused, too_long, record_refusal}
use Rattle.filing.specs.Resolving.{Listing}
use Rattle.filing.specs.Standing.{at_start, after_all, all_rows}
use Rattle.cases.specs.Spelled.{spelled_book, spelled_bars}
use Rattle.fulltext.specs.Full.{full_lines}

-- What a case has that can be written out: as many names as locks and holders, a book in its ranges, an order that is
-- accepted, and bars of pairs of the book.
pub record Writable (ls hs : List (List ℕ)) (m : Meaning) (js : List Join) (bars : ℕ → ℕ → Bool) : Type 0 where
  pub lock_list : Listing 64 ls
  pub holder_list : Listing 64 hs
  pub locks : length ls ≡ m.locks
  pub holders : length hs ≡ m.holders
  pub ranged : Ranged m
  pub ordered : order_refusal (shape_of m) js ≡ None
  pub within : (lock holder : ℕ) → bars lock holder ≡ true → (lock < m.locks) × (holder < m.holders)

-- the lines spell this case
pub record Spells (ls hs : List (List ℕ)) (m : Meaning) (js : List Join) (bars : ℕ → ℕ → Bool) (ts : List Told) : Type 0 where
  pub lock_list : lock_names ts ≡ ls
  pub holder_list : holder_names ts ≡ hs
  pub book : spelled_book ts ≡ m
  pub joins : joins_of ts ≡ js
  pub barred : spelled_bars ts ≡ bars

-- lines that can be filed, the row list left aside
pub record Filable (ts : List Told) : Type 0 where
  pub good : AllByRecursion Good ts
  pub pass : AllPass AnyRow at_start ts
  pub ends : may_end (after_all at_start ts).before ≡ true

-- The full text of a case can be filed, and it spells that case.
abbrev pub ReadsBack : Type 0
ReadsBack =
    (ls hs : List (List ℕ)) (m : Meaning) (js : List Join) (bars : ℕ → ℕ → Bool) → Writable ls hs m js bars →
    Filable (full_lines ls hs m js bars) × Spells ls hs m js bars (full_lines ls hs m js bars)

-- where the row list is full: the lines before the first row that finds no place, and that row
pub record FullAt (ts : List Told) (places : ℕ) : Type 0 where
  pub before : List Told
  pub line : Told
  pub after : List Told
  pub whole : ts ≡ before ++ line ∷ after
  pub filled : length (all_rows at_start before) ≡ places
  pub row : length (all_rows at_start (before ++ line ∷ [])) ≡ places + 1

-- What reading the text of such lines comes to: it is refused by its length, or at the first row that finds no place in
-- the row list, and else it is accepted.
pub record ReadAgain (ts : List Told) (list : List RowRecord) : Type 0 where
  pub long : 65535 < length (spell_all ts) → Refused (Full list) (spell_all ts) too_long []
  pub full : length (spell_all ts) ≤ 65535 → length list < length (all_rows at_start ts) →
      (stop : FullAt ts (length list)) × Refused (Full list) (spell_all ts) (record_refusal (length stop.before + 1) NoRoom) stop.before
  pub accepted : length (spell_all ts) ≤ 65535 → length (all_rows at_start ts) ≤ length list → Accepted (Full list) (spell_all ts) ts

abbrev pub FilableIsRead : Type 0
FilableIsRead = (ts : List Told) (list : List RowRecord) → Filable ts → ReadAgain ts list

-- Lines without rules that can be filed are the full text of the case that they spell.
abbrev pub ComesBack : Type 0
ComesBack =
    (ts : List Told) → Filable ts → rules_of ts ≡ [] →
    full_lines (lock_names ts) (holder_names ts) (spelled_book ts) (joins_of ts) (spelled_bars ts) ≡ ts
