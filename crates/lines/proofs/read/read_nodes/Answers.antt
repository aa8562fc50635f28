use Rattle.std.proofs.Common.{sym}
use Rattle.lines.proofs.Spelling.{nodes_cut}
use Rattle.lines.proofs.read.read_nodes.Goals as goal

pub returns-in_err-left : goal.returns-in_err-left
returns-in_err-left c =
    rw c.from_residual-in_err-left.ensures
    (λ m n g e. c.in_err-left.ensures m (record { small = g.0; is = sym (nodes_cut m n _ _ _ g.0 c.in_ok-front.ensures e).front }))

pub returns-in_err-right : goal.returns-in_err-right
returns-in_err-right c =
    rw c.from_residual-in_err-right.ensures
    (λ m n g e. c.in_err-right.ensures n (record { small = g.1; is = sym (nodes_cut m n _ _ _ g.0 c.in_ok-front.ensures e).back }))
