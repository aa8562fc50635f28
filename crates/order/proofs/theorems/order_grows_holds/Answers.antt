use Rattle.aggregation.proofs.Grown.{grows}
use Rattle.order.proofs.AcceptedOrders.{accepted}
use Rattle.order.proofs.theorems.order_grows_holds.Goals as goal

pub returns : goal.returns
returns c = λ s js e. grows s js (accepted s js e)
