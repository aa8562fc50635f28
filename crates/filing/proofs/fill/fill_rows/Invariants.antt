use Rattle.std.proofs.Common.{◌≡◌, List, length}
use Rattle.lines.specs.Told.{Told}
use Rattle.filing.specs.Reading.{Full, filled}
use Rattle.filing.proofs.Filling.{Sofar}
use Rattle.filing.proofs.fill.fill_rows.Given as goal

abbrev pub invariant-loop-entry : goal.invariant-loop-entry
invariant-loop-entry l = (ts : List Told) × Sofar (Full l.initial.rows) l.text ts l.scan × (l.rows ≡ filled ts l.initial.rows)

abbrev pub decreases-loop-entry : goal.decreases-loop-entry
decreases-loop-entry l = length l.scan.rest.now
