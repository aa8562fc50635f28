use Rattle.std.proofs.Common.{List, length}
use Rattle.lines.specs.Told.{Told}
use Rattle.filing.proofs.Gathering.{Gathered}
use Rattle.filing.proofs.second.gather.Given as goal

abbrev pub invariant-loop-entry : goal.invariant-loop-entry
invariant-loop-entry l = (ts : List Told) × Gathered l.text l.rows ts l.scan l.draft

abbrev pub decreases-loop-entry : goal.decreases-loop-entry
decreases-loop-entry l = length l.scan.rest.now
