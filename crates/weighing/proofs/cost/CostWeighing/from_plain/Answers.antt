use Rattle.std.proofs.Common.{ap}
use Rattle.weighing.specs.Capping.{new_is}
use Rattle.weighing.specs.Costs.{cost}
use Rattle.weighing.proofs.cost.CostWeighing.from_plain.Goals as goal

pub returns : goal.returns
returns c = ap cost (new_is c.args.value c.new.result c.new.ensures)
