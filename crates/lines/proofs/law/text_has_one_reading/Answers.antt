use Rattle.lines.proofs.Spelling.{one_reading}
use Rattle.lines.proofs.law.text_has_one_reading.Goals as goal

pub returns : goal.returns
returns c = one_reading
