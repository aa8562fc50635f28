use Rattle.std.proofs.Common.{set, ap, ◌∙◌, arith}
use Rattle.book.specs.Layers.{bar_at}
use Rattle.book.proofs.Bars.{set_pair}
use Rattle.book.proofs.barred.set_bar.Goals as goal

pub returns-then-lock-lt64-clause-after : goal.returns-then-lock-lt64-clause-after
returns-then-lock-lt64-clause-after c =
    let bars = c.args.bars.now in
    ap (λ marks. bar_at (set bars c.args.lock marks)) c.set_mark.ensures.after ∙ set_pair bars c.args.lock c.args.holder c.args.barred c.told-bars (omega arith) c.set_mark.ensures.len
