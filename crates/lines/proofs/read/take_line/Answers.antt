use Rattle.std.proofs.lemmas.Result.{err_from_is_err_and}
use Rattle.lines.proofs.Spelling.{no_line}
use Rattle.lines.proofs.read.take_line.Goals as goal

pub returns-in_err-line : goal.returns-in_err-line
returns-in_err-line c =
    let p = err_from_is_err_and c.from_residual-in_err-line.result c.from_residual-in_err-line.ensures.1 in
    let cut = rw c.in_ok-bytes.ensures.ok_part at c.next_line.ensures in
    rw (p.1, p.2) (no_line _ _ _ cut c.in_err-line.ensures.0, c.in_err-line.ensures.1)
