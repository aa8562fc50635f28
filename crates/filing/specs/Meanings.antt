-- What an accepted text means.
use Rattle.std.specs.Prelude.{◌≡◌, ℕ, false, List, map, length, Result, MatchResult}
use Rattle.book.specs.Layers.{bar_at}
use Rattle.lines.specs.Told.{Told}
use Rattle.filing.specs.declared.draft.Draft.{Draft}
use Rattle.filing.specs.declared.names.NameList.{NameList}
use Rattle.filing.specs.declared.record.RowRecord.{RowRecord}
use Rattle.filing.specs.declared.second.Filing.{Filing}
use Rattle.book.specs.declared.refusal.Refusal.{Refusal}
use Rattle.filing.specs.Standing.{at_start, after_all, all_rows}
use Rattle.filing.specs.Contents.{scopes_of, rules_of, joins_of, bars_of, barred_in_turn, BookOf, ruled_by}
use Rattle.filing.specs.Drafts.{noted_joins}
use Rattle.filing.specs.Reading.{OtherRow, Accepted, Refused}
use Rattle.filing.specs.Resolving.{names_of}
use Rattle.filing.specs.Rules.{by_rules}
use Rattle.filing.specs.Written.{listed, written}

-- a filing made of a draft and its name lists
pub record Finished (d : Draft) (locks holders : NameList) (f : Filing) : Type 0 where
  pub written_so : f.written ≡ d.written
  pub rules_so : f.rules ≡ d.rules
  pub locks_so : f.locks ≡ locks
  pub holders_so : f.holders ≡ holders
  pub joins_so : f.joins ≡ d.joins
  pub bars_so : f.bars ≡ d.bars.bars

-- the names of the locks and of the holders
abbrev pub lock_names : List Told → List (List ℕ)
lock_names ts = (after_all at_start ts).locks

abbrev pub holder_names : List Told → List (List ℕ)
holder_names ts = (after_all at_start ts).holders

-- the lines mean this: the names of their lists, a written book with their tables and rows, a rule book with their
-- rules, their joins, and the bars that come of barring their pairs in turn
pub record Means (ts : List Told) (f : Filing) : Type 0 where
  pub locks : names_of f.locks.names ≡ lock_names ts
  pub holders : names_of f.holders.names ≡ holder_names ts
  pub tables : BookOf (written f.written) (length (lock_names ts)) (length (holder_names ts)) (scopes_of ts) (listed (all_rows at_start ts))
  pub rules : BookOf (by_rules f.rules) (length (lock_names ts)) (length (holder_names ts)) (map (λ r. r.scope) (rules_of ts)) (ruled_by (length (holder_names ts)) (rules_of ts))
  pub joins : noted_joins f.joins ≡ joins_of ts
  pub bars : bar_at f.bars ≡ barred_in_turn (λ lock holder. false) (bars_of ts)

-- The second call: the text is some lines whose rows stand at the front of the list, and the filing is what they
-- mean; or the text is refused so after some lines.
pub record SecondCall (text : List ℕ) (list : List RowRecord) (r : Result Filing Refusal) : Type 0 where
  pub lines : List Told
  pub result : MatchResult r (λ filing. Accepted (OtherRow list) text lines × Means lines filing) (λ e. Refused (OtherRow list) text e lines)
