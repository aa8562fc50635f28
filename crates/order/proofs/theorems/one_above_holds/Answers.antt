use Rattle.order.proofs.AcceptedOrders.{accepted}
use Rattle.order.proofs.OneAbove.{one_above, none_above}
use Rattle.order.proofs.theorems.one_above_holds.Goals as goal

pub returns : goal.returns
returns c = λ s js e k. (one_above s js (accepted s js e) k, none_above s js (accepted s js e) k)
