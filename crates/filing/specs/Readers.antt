-- What a reader has read, and how it judges a line.
use Rattle.std.specs.Prelude.{◌≡◌, ℕ, ◌<◌, ◌≤◌, true, List, length, Some, Option, Result, MatchOption, MatchResult, ◌≢◌}
use Rattle.book.specs.Scopes.{named}
use Rattle.book.specs.declared.scope.Scope.{Scope}
use Rattle.book.specs.declared.refusal.RecordCause.{RecordCause}
use Rattle.book.specs.Lists.{Rising, Below}
use Rattle.book.specs.declared.refusal.RecordCause.TheVariants.{Misplaced, TooMany, WrongName, NotRising, NoRoom}
use Rattle.lines.specs.Told.{Told, locks, holders, table, row, differ, same, join, bar, kind_of}
use Rattle.lines.specs.declared.kind.Kind.{Kind}
use Rattle.lines.specs.declared.kind.Kind.TheVariants as kind
use Rattle.filing.specs.declared.record.RowRecord.{RowRecord}
use Rattle.filing.specs.declared.reader.Entry.{Entry}
use Rattle.filing.specs.declared.reader.Entry.TheVariants as entry
use Rattle.filing.specs.declared.reader.Reader.{Reader}
use Rattle.filing.specs.declared.rule.RuleForm.{RuleForm}
use Rattle.filing.specs.declared.rule.RuleForm.TheVariants as form
use Rattle.filing.specs.Follows.{may_follow}
use Rattle.filing.specs.Standing.{Standing, place_of, places, after, record_of, charge_of}
use Rattle.filing.specs.Judging.{Unlisted, Falls, FirstMet, Passes}
use Rattle.filing.specs.Resolving.{names_of}

abbrev pub standing_of : Reader → Standing
standing_of r = record { before = r.before; locks = names_of r.locks; holders = names_of r.holders; tables = r.tables; width = r.width; rows = r.rows; last_row = r.last_row; joins = r.joins; bar_lock = r.last_bar.0; bar_holder = r.last_bar.1 }

-- no row is bad: the row list is left aside
abbrev pub AnyRow : ℕ → RowRecord → Type 0
AnyRow k r = ⊥

-- the entry's scope has the numbers of these locks, which are all in the list
pub record Over (s : Standing) (ns : List (List ℕ)) (scope : Scope) : Type 0 where
  pub is : named scope ≡ places s.locks ns
  pub below : Below (length s.locks) (named scope)

-- what a line adds, by numbers
abbrev pub Adds : Standing → Told → Entry → Type 0
Adds s (locks ns) e = e ≡ entry.Names
Adds s (holders ns) e = e ≡ entry.Names
Adds s (table ns) e = (scope : Scope) × Over s ns scope × (e ≡ entry.Table scope)
Adds s (row ns n) e = e ≡ entry.Row (record_of s ns n)
Adds s (differ ns n) e = (scope : Scope) × Over s ns scope × (e ≡ entry.Rule scope (record { form = form.Differ; charge = charge_of n }))
Adds s (same ns n) e = (scope : Scope) × Over s ns scope × (e ≡ entry.Rule scope (record { form = form.Same; charge = charge_of n }))
Adds s (join m n) e = e ≡ entry.Join m n
Adds s (bar l h) e = e ≡ entry.Bar (place_of s.locks l) (place_of s.holders h)

-- locks that can be the scope of one table more
pub record Scoped (s : Standing) (ns : List (List ℕ)) (scope : Scope) : Type 0 where
  pub few : s.tables < 64
  pub listed : Unlisted s.locks ns → ⊥
  pub rises : Rising (places s.locks ns)
  pub over : Over s ns scope

-- locks that cannot, and the first cause why
abbrev pub Unscoped : RecordCause → Standing → List (List ℕ) → Type 0
Unscoped Misplaced s ns = ⊥
Unscoped TooMany s ns = 64 ≤ s.tables
Unscoped WrongName s ns = (s.tables < 64) × Unlisted s.locks ns
Unscoped NotRising s ns = (s.tables < 64) × (Unlisted s.locks ns → ⊥) × Falls s ns
Unscoped NoRoom s ns = ⊥

-- a line that is taken: it meets no condition, the row list left aside
pub record Taken (s : Standing) (t : Told) (next : Standing) (e : Entry) : Type 0 where
  pub passes : Passes AnyRow s t
  pub adds : Adds s t e
  pub moves : next ≡ after s t

-- the judgement of a line: it is taken, or the first condition that it meets refuses it
abbrev pub Judged : Standing → Told → Standing → Result Entry RecordCause → Type 0
Judged s t next r = MatchResult r (λ e. Taken s t next e) (λ cause. FirstMet AnyRow cause s t)

-- what stands, with this kind of line before
abbrev pub seen : Standing → Kind → Standing
seen s k = record { before = Some k; locks = s.locks; holders = s.holders; tables = s.tables; width = s.width; rows = s.rows; last_row = s.last_row; joins = s.joins; bar_lock = s.bar_lock; bar_holder = s.bar_holder }

-- the judgement of a line that may follow, before its kind is noted
abbrev pub Entered : Standing → Told → Standing → Result Entry RecordCause → Type 0
Entered s t next r = may_follow s.before (kind_of t) ≡ true → Judged s t (seen next (kind_of t)) r

-- the line of a rule of this form
abbrev pub rule_line : RuleForm → List (List ℕ) → ℕ → Told
rule_line form.Differ ns n = differ ns n
rule_line form.Same ns n = same ns n

-- the number of the row before, if the line before is a row
abbrev pub LastRow : Standing → Option ℕ → Type 0
LastRow s last = MatchOption last (s.before ≢ Some kind.Row) (λ k. (s.before ≡ Some kind.Row) × (k ≡ s.last_row))

-- the bar before, if the line before is a bar
abbrev pub LastBar : Standing → Option (ℕ × ℕ) → Type 0
LastBar s last = MatchOption last (s.before ≢ Some kind.Bar) (λ p. (s.before ≡ Some kind.Bar) × (p ≡ (s.bar_lock, s.bar_holder)))
