use Rattle.aggregation.proofs.Small.{early_drop_is_wrong}
use Rattle.aggregation.proofs.examples.early_drop_is_wrong.Goals as goal

pub returns : goal.returns
returns c = record { fails = early_drop_is_wrong }
