use Rattle.lines.proofs.Spelling.{one_value}
use Rattle.lines.proofs.law.spelling_is_one_to_one.Goals as goal

pub returns : goal.returns
returns c = one_value
