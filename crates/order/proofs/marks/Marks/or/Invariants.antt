use Rattle.std.proofs.Common.{◌≡◌, ℕ, ◌<◌, false, ◌||◌, get_or}
use Rattle.order.specs.Marked.{marked}
use Rattle.order.proofs.marks.Marks.or.Given as goal

abbrev pub invariant-loop-k : goal.invariant-loop-k
invariant-loop-k l = (k : ℕ) → k < l.k → get_or l.mark-items k false ≡ (marked l.self k || marked l.other k)
