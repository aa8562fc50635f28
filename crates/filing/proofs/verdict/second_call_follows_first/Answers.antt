use Rattle.filing.proofs.Seconds.{second_follows}
use Rattle.filing.proofs.verdict.second_call_follows_first.Goals as goal

pub returns : goal.returns
returns c = second_follows
