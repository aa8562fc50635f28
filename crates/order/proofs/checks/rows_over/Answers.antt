use Rattle.std.proofs.Common.{arith}
use Rattle.book.proofs.Numbers.{pow_small}
use Rattle.order.proofs.checks.rows_over.Goals as goal

pub pow-requires : goal.pow-requires
pow-requires c = omega (arith, pow_small c.args.holders c.len.result c.requires.0 c.requires.1 (omega arith))

pub returns-clause-bound : goal.returns-clause-bound
returns-clause-bound c = omega (arith, pow_small c.args.holders c.len.result c.requires.0 c.requires.1 (omega arith), c.pow.ensures)
