use Rattle.filing.specs.Reading.{Full, OtherRow}
use Rattle.filing.proofs.Verdicts.{one_verdict}
use Rattle.filing.proofs.verdict.text_has_one_verdict.Goals as goal

pub returns : goal.returns
returns c list = (one_verdict (Full list), one_verdict (OtherRow list))
