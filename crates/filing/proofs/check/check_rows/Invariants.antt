use Rattle.std.proofs.Common.{List, length}
use Rattle.lines.specs.Told.{Told}
use Rattle.filing.specs.Calls.{FoundRows}
use Rattle.filing.specs.Reading.{OtherRow}
use Rattle.filing.specs.Standing.{at_start, all_rows}
use Rattle.filing.proofs.Filling.{Sofar}
use Rattle.filing.proofs.check.check_rows.Given as goal

abbrev pub invariant-loop-entry : goal.invariant-loop-entry
invariant-loop-entry l = (ts : List Told) × Sofar (OtherRow l.rows) l.text ts l.scan × FoundRows l.rows l.scan.reader.rows (all_rows at_start ts)

abbrev pub decreases-loop-entry : goal.decreases-loop-entry
decreases-loop-entry l = length l.scan.rest.now
