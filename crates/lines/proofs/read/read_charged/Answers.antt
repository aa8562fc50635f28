use Rattle.std.proofs.Common.{sym}
use Rattle.lines.proofs.Spelling.{charged_cut}
use Rattle.lines.proofs.read.read_charged.Goals as goal

pub returns-in_err-names : goal.returns-in_err-names
returns-in_err-names c =
    rw c.from_residual-in_err-names.ensures
    (λ ns n g e. c.in_err-names.ensures ns g.0 (sym (charged_cut ns n _ _ _ g.0.names c.in_ok-front.ensures e).front))

pub returns-in_err-charge : goal.returns-in_err-charge
returns-in_err-charge c =
    rw c.from_residual-in_err-charge.ensures
    (λ ns n g e. c.in_err-charge.ensures n (record { small = g.1; is = sym (charged_cut ns n _ _ _ g.0.names c.in_ok-front.ensures e).back }))
