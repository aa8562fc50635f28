use Rattle.order.proofs.AcceptedOrders.{accepted_exactly}
use Rattle.order.proofs.theorems.accepted_exactly_holds.Goals as goal

pub returns : goal.returns
returns c = accepted_exactly
