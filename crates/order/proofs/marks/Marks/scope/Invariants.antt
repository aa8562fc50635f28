use Rattle.std.proofs.Common.{◌≡◌}
use Rattle.aggregation.specs.Sets.{listed}
use Rattle.order.specs.Marked.{marked}
use Rattle.order.proofs.marks.Marks.scope.Given as goal

abbrev pub invariant-loop-k : goal.invariant-loop-k
invariant-loop-k l = l.locks.items ≡ listed l.k (marked l.self)
