use Rattle.aggregation.proofs.Small.{counted_example, chosen_example}
use Rattle.aggregation.proofs.examples.hypotheses_are_met.Goals as goal

pub returns : goal.returns
returns c = record { counted = counted_example; chosen = chosen_example }
