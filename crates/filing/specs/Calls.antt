-- What the two calls give and leave.
use Rattle.std.specs.Prelude.{◌≡◌, ℕ, ◌≤◌, List, length, take, Result, MatchResult}
use Rattle.book.specs.declared.refusal.Refusal.{Refusal}
use Rattle.lines.specs.Told.{Told}
use Rattle.filing.specs.declared.record.RowRecord.{RowRecord}
use Rattle.filing.specs.Standing.{at_start, all_rows}
use Rattle.filing.specs.Reading.{Full, OtherRow, Accepted, Refused, filled}

-- The first call: there are lines whose rows then stand at the front of the list, and behind them what stood
-- there. The text is these lines, and their rows are counted; or it is refused after them.
pub record FirstCall (text : List ℕ) (before now : List RowRecord) (r : Result ℕ Refusal) : Type 0 where
  pub lines : List Told
  pub rows : now ≡ filled lines before
  pub result : MatchResult r (λ n. Accepted (Full before) text lines × (n ≡ length (all_rows at_start lines))) (λ e. Refused (Full before) text e lines)

-- n rows are at the front of the list
pub record FoundRows (list : List RowRecord) (n : ℕ) (rows : List RowRecord) : Type 0 where
  pub within : n ≤ length list
  pub front : take n list ≡ rows

-- The second call's test: the text is some lines, whose rows stand at the front of the list and are counted; or it
-- is refused after some lines.
pub record SecondCheck (text : List ℕ) (list : List RowRecord) (r : Result ℕ Refusal) : Type 0 where
  pub lines : List Told
  pub result : MatchResult r (λ n. Accepted (OtherRow list) text lines × FoundRows list n (all_rows at_start lines)) (λ e. Refused (OtherRow list) text e lines)
