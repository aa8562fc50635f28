use Rattle.order.proofs.CarriedPlans.{carried}
use Rattle.order.proofs.theorems.plan_carries_holds.Goals as goal

pub returns : goal.returns
returns c = carried
