use Rattle.std.proofs.Common.{rules, tests}
use Rattle.lines.proofs.Naming.{few_of}
use Rattle.lines.proofs.names.Names.read_few.Goals as goal

pub returns : goal.returns
returns c = rw c.then_some.ensures (few_of c.args.least c.args.most _ c.in_ok-names.names c.requires c.in_ok-names.ensures c.contains.result (search (rules, tests)))
