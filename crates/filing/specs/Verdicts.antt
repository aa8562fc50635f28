-- A text has one verdict.
use Rattle.std.specs.Prelude.{◌≡◌, ℕ, List}
use Rattle.book.specs.declared.refusal.Refusal.{Refusal}
use Rattle.lines.specs.Told.{Told}
use Rattle.filing.specs.declared.record.RowRecord.{RowRecord}
use Rattle.filing.specs.Reading.{Full, OtherRow, Accepted, Refused, filled}

-- no text is both accepted and refused, it has one reading, and it is refused in one way
pub record OneVerdict (Bad : ℕ → RowRecord → Type 0) : Type 0 where
  pub never_both : (text : List ℕ) (e : Refusal) (ts us : List Told) → Accepted Bad text ts → Refused Bad text e us → ⊥
  pub one_reading : (text : List ℕ) (ts us : List Told) → Accepted Bad text ts → Accepted Bad text us → ts ≡ us
  pub one_refusal : (text : List ℕ) (e f : Refusal) (ts us : List Told) → Refused Bad text e ts → Refused Bad text f us → e ≡ f
  pub one_stop : (text : List ℕ) (e f : Refusal) (ts us : List Told) → Refused Bad text e ts → Refused Bad text f us → ts ≡ us

-- with any row list, in the first call and in the second
abbrev pub OneVerdictEach : Type 0
OneVerdictEach = (list : List RowRecord) → OneVerdict (Full list) × OneVerdict (OtherRow list)

-- where the first call accepts a text, the second accepts it with the list that the first leaves
abbrev pub SecondFollows : Type 0
SecondFollows = (text : List ℕ) (list : List RowRecord) (ts : List Told) → Accepted (Full list) text ts → Accepted (OtherRow (filled ts list)) text ts
