use Rattle.std.proofs.Common.{length, ap, ◌∙◌, inl, arith}
use Rattle.lines.specs.Told.{left}
use Rattle.filing.proofs.Naming.{few_names}
use Rattle.filing.proofs.resolve.has_twice.Goals as goal

pub any-requires-clause-can : goal.any-requires-clause-can
any-requires-clause-can c =
    (tt, tt, inl (omega (arith, c.ranges.names.0, c.ranges.names.1, few_names c.args.names.bytes.now, c.enumerate.ensures.count, ap length (ap left c.enumerate.ensures.source ∙ c.iter.ensures))))
