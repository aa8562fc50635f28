use Rattle.std.proofs.Common.{arith}
use Rattle.std.proofs.lemmas.List.{take_more_set}
use Rattle.filing.proofs.joins.Joins.push.Goals as goal

pub returns : goal.returns
returns c = take_more_set c.args.self.now.at c.args.self.now.len c.args.join (omega (arith, c.args.self.now.size))
