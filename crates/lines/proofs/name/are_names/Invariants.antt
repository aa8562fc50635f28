use Rattle.std.proofs.Common.{length}
use Rattle.lines.proofs.Naming.{SameNaming}
use Rattle.lines.proofs.name.are_names.Given as goal

abbrev pub invariant-loop-i : goal.invariant-loop-i
invariant-loop-i l = SameNaming l.bytes l.rest

abbrev pub decreases-loop-i : goal.decreases-loop-i
decreases-loop-i l = length l.rest
