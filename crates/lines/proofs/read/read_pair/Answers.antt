use Rattle.std.proofs.Common.{rules, tests}
use Rattle.weighing.specs.Tests.{Tells}
use Rattle.lines.specs.Names.{Name}
use Rattle.lines.proofs.Spelling.{pair_of}
use Rattle.lines.proofs.read.read_pair.Goals as goal
use Rattle.lines.proofs.read.read_pair.Goals.{then-is_name, else-is_name}

pub returns : goal.returns
returns c =
    let both : Tells (Name c.in_ok-lock.lock.now × Name c.in_ok-lock.holder.now) c.if-is_name.then_some = elim c.if-is_name.branch [
      | then-is_name w ↦ search (rules, tests)
      | else-is_name w ↦ search (rules, tests)
    ] in
    rw c.then_some.ensures (pair_of _ _ _ _ c.in_ok-lock.ensures both)
