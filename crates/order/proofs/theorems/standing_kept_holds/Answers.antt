use Rattle.order.proofs.StandingPlans.{standing}
use Rattle.order.proofs.theorems.standing_kept_holds.Goals as goal

pub returns : goal.returns
returns c = standing
