use Rattle.book.proofs.Joins.{joined_tables}
use Rattle.book.proofs.laws.joined_tables.Goals as goal

pub returns : goal.returns
returns c = joined_tables
