use Rattle.book.proofs.Numbers.{rows_numbered}
use Rattle.book.proofs.laws.rows_numbered.Goals as goal

pub returns : goal.returns
returns c = rows_numbered
