use Rattle.std.proofs.Common.{arith}
use Rattle.book.proofs.Numbers.{pow_small}
use Rattle.bench.proofs.grid.reads.GridBook.charge.Goals as goal

pub pow-requires : goal.pow-requires
pow-requires c =
    let s = c.args.self.now in
    let some = s.some_holders in omega (arith, pow_small s.holders c.len.result (omega arith) s.few_holders (omega arith))
