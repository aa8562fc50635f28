use Rattle.book.proofs.Touches.{rows_barred}
use Rattle.book.proofs.laws.rows_barred.Goals as goal

pub returns : goal.returns
returns c = rows_barred
