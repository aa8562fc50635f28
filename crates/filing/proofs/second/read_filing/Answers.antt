use Rattle.filing.specs.Reading.{OtherRow}
use Rattle.filing.proofs.Texts.{accepted_any}
use Rattle.filing.proofs.second.read_filing.Goals as goal

pub gather-requires : goal.gather-requires
gather-requires c =
    let h = c.in_ok-n.ensures in
    (h.lines, accepted_any (OtherRow c.args.rows.now) _ _ h.result.0, h.result.1.front)

pub returns : goal.returns
returns c =
    let h = c.in_ok-n.ensures in
    record { lines = h.lines; result = (h.result.0, c.gather.ensures h.lines (accepted_any (OtherRow c.args.rows.now) _ _ h.result.0) h.result.1.front) }
