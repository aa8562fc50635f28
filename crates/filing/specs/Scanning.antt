-- One step along a text.
use Rattle.std.specs.Prelude.{◌≡◌, ℕ, ◌+◌, true, ◌⊎◌, List, [], Option, Result, MatchOption, MatchResult}
use Rattle.book.specs.declared.refusal.Refusal.{Refusal}
use Rattle.lines.specs.Told.{Told}
use Rattle.lines.specs.Texts.{Begins}
use Rattle.filing.specs.declared.reader.Entry.{Entry}
use Rattle.filing.specs.declared.scan.Scan.{Scan}
use Rattle.filing.specs.Follows.{may_end}
use Rattle.filing.specs.Standing.{Standing, at_start}
use Rattle.filing.specs.Reading.{Stops}
use Rattle.filing.specs.Readers.{standing_of, AnyRow, Taken}

abbrev pub standing_at : Scan → Standing
standing_at p = standing_of p.reader

-- nothing of the text is read
pub record Opened (text : List ℕ) (p : Scan) : Type 0 where
  pub stands : standing_at p ≡ at_start
  pub rest : p.rest.now ≡ text
  pub place : p.place ≡ 1

-- nothing is left, and the text may end
pub record Ended (p : Scan) : Type 0 where
  pub rest : p.rest.now ≡ []
  pub ends : may_end (standing_at p).before ≡ true

-- the next line is taken, and adds this
pub record Stepped (p q : Scan) (e : Entry) : Type 0 where
  pub line : Told
  pub begins : Begins line p.rest.now q.rest.now
  pub taken : Taken (standing_at p) line (standing_at q) e
  pub place : q.place ≡ p.place + 1

-- there is no next line: the text ends, or is stopped
abbrev pub Halted : Scan → Type 0
Halted p = Ended p ⊎ ((e : Refusal) × Stops AnyRow (standing_at p) p.place p.rest.now e)

-- the next line, the end, or what stops the text; the last two leave the scan as it was
abbrev pub Scanned : Scan → Scan → Result (Option Entry) Refusal → Type 0
Scanned p q r = MatchResult r (λ o. MatchOption o (Ended p × (q ≡ p)) (λ e. Stepped p q e)) (λ e. Stops AnyRow (standing_at p) p.place p.rest.now e × (q ≡ p))
