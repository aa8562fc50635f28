use Rattle.filing.proofs.Listings.{rows_listed}
use Rattle.filing.proofs.laws.rows_listed.Goals as goal

pub returns : goal.returns
returns c = rows_listed
