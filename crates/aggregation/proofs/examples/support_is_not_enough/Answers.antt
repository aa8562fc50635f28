use Rattle.aggregation.proofs.Small.{support_is_not_enough}
use Rattle.aggregation.proofs.examples.support_is_not_enough.Goals as goal

pub returns : goal.returns
returns c = record { fails = support_is_not_enough }
