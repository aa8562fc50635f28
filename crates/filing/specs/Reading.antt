-- What a text says, or what stops it first.
use Rattle.std.specs.Prelude.{◌≡◌, ℕ, ◌+◌, ◌<◌, ◌≤◌, true, false, List, [], ◌∷◌, ◌++◌, length, drop, slice_index_or}
use Rattle.std.specs.List.{AllByRecursion}
use Rattle.book.specs.declared.refusal.Refusal.{Refusal}
use Rattle.book.specs.declared.refusal.Layer.TheVariants.{Line, Record}
use Rattle.book.specs.declared.refusal.LineCause.TheVariants.{TooLong}
use Rattle.book.specs.declared.refusal.RecordCause.{RecordCause}
use Rattle.book.specs.declared.refusal.RecordCause.TheVariants.{Misplaced}
use Rattle.lines.specs.Told.{Told, Good}
use Rattle.lines.specs.Texts.{spell_all, Begins, NoLine, no_form}
use Rattle.filing.specs.declared.record.RowRecord.{RowRecord}
use Rattle.filing.specs.Follows.{may_end}
use Rattle.filing.specs.Standing.{Standing, at_start, after, after_all, all_rows}
use Rattle.filing.specs.Judging.{FirstMet, Passes}

-- the first call's condition on rows: the list is full
abbrev pub Full : List RowRecord → ℕ → RowRecord → Type 0
Full list k r = length list ≤ k

-- the second call's: the list is shorter, or another row stands there
abbrev pub OtherRow : List RowRecord → ℕ → RowRecord → Type 0
OtherRow list k r = (k < length list) × (slice_index_or list k r ≡ r) → ⊥

-- each line in turn meets no condition
abbrev pub AllPass : (ℕ → RowRecord → Type 0) → Standing → List Told → Type 0
AllPass Bad s [] = Unit {0}
AllPass Bad s (t ∷ ts) = Passes Bad s t × AllPass Bad (after s t) ts

-- the text begins with these lines, which meet no condition, and goes on with the rest
pub record Reached (Bad : ℕ → RowRecord → Type 0) (text : List ℕ) (ts : List Told) (rest : List ℕ) : Type 0 where
  pub good : AllByRecursion Good ts
  pub whole : text ≡ spell_all ts ++ rest
  pub pass : AllPass Bad at_start ts

-- the text is these lines, nothing stops it
pub record Accepted (Bad : ℕ → RowRecord → Type 0) (text : List ℕ) (ts : List Told) : Type 0 where
  pub short : length text ≤ 65535
  pub reached : Reached Bad text ts []
  pub ends : may_end (after_all at_start ts).before ≡ true

abbrev pub record_refusal : ℕ → RecordCause → Refusal
record_refusal place cause = record { layer = Record place cause }

abbrev pub too_long : Refusal
too_long = record { layer = Line 0 TooLong }

-- what stops a text where such lines stand before and the rest is to come: the rest is not empty and no line
-- begins it, or its first line meets a condition, or it is empty and the text may not end here
pub data Stops (Bad : ℕ → RowRecord → Type 0) (s : Standing) (place : ℕ) (rest : List ℕ) (e : Refusal) : Type 0 where
  no_line : 0 < length rest → NoLine rest → e ≡ no_form place → Stops Bad s place rest e
  met : (t : Told) (next : List ℕ) (cause : RecordCause) → Begins t rest next → FirstMet Bad cause s t → e ≡ record_refusal place cause → Stops Bad s place rest e
  ended : rest ≡ [] → may_end s.before ≡ false → e ≡ record_refusal place Misplaced → Stops Bad s place rest e

-- a text of at most 65,535 bytes is stopped at the first line that cannot be taken, or at its end, which
-- counts as one line more
pub record Stopped (Bad : ℕ → RowRecord → Type 0) (text : List ℕ) (e : Refusal) (ts : List Told) : Type 0 where
  pub short : length text ≤ 65535
  pub rest : List ℕ
  pub reached : Reached Bad text ts rest
  pub stops : Stops Bad (after_all at_start ts) (length ts + 1) rest e

-- the text is refused: it is too long, or these lines stand before what stops it
pub data Refused (Bad : ℕ → RowRecord → Type 0) (text : List ℕ) (e : Refusal) (ts : List Told) : Type 0 where
  long : 65535 < length text → ts ≡ [] → e ≡ too_long → Refused Bad text e ts
  at : Stopped Bad text e ts → Refused Bad text e ts

-- the row list with the rows of these lines at its front
abbrev pub filled : List Told → List RowRecord → List RowRecord
filled ts list = all_rows at_start ts ++ drop (length (all_rows at_start ts)) list
