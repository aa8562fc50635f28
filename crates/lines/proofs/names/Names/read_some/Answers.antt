use Rattle.lines.proofs.Naming.{some_of}
use Rattle.lines.proofs.names.Names.read_some.Goals as goal

pub returns : goal.returns
returns c = rw c.then_some.ensures (some_of _ _ c.are_names.ensures)
