use Rattle.filing.proofs.Ruled.{rows_ruled}
use Rattle.filing.proofs.laws.rows_ruled.Goals as goal

pub returns : goal.returns
returns c = rows_ruled
