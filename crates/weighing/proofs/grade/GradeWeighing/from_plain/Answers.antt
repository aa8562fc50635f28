use Rattle.std.proofs.Common.{rules}
use Rattle.weighing.specs.Capping.{new_is}
use Rattle.weighing.proofs.grade.GradeWeighing.from_plain.Goals as goal

pub returns : goal.returns
returns c =
    let made = new_is c.args.value c.new.result c.new.ensures in
    search rules
