use Rattle.std.proofs.Common.{take}
use Rattle.engine.specs.Memory.{memory_in, SameMemory}
use Rattle.engine.specs.Views.{book_in}
use Rattle.engine.proofs.Running.{StandsAfter}
use Rattle.engine.proofs.runs.ask_after.Given as goal

abbrev pub invariant-loop-call : goal.invariant-loop-call
invariant-loop-call g l =
    SameMemory l.lent l.initial.lent
    × StandsAfter g.W.Weighing.algebra (book_in l.initial.case) (memory_in l.initial.lent) l.case (take l.call-index l.calls) (memory_in l.lent)
