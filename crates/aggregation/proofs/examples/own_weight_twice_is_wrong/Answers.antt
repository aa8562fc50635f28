use Rattle.aggregation.proofs.Small.{own_weight_twice_is_wrong}
use Rattle.aggregation.proofs.examples.own_weight_twice_is_wrong.Goals as goal

pub returns : goal.returns
returns c = record { fails = own_weight_twice_is_wrong }
