use Rattle.std.proofs.Common.{arith}
use Rattle.book.proofs.Numbers.{pow_small}
use Rattle.book.proofs.shape.BookShape.has_row.Goals as goal

pub pow-requires : goal.pow-requires
pow-requires c = let s = c.args.self.now in omega (arith, pow_small s.holders c.len.result s.some_holder s.few_holders (omega arith))
