use Rattle.std.proofs.Common.{eqb, rules, tests}
use Rattle.std.proofs.lemmas.Iterator.Consumers.{nth_from_yields_List}
use Rattle.std.proofs.lemmas.Iterator.Splits.{YieldsList-from_slice_split}
use Rattle.lines.proofs.Naming.{name_at}
use Rattle.lines.specs.Told.{held}
use Rattle.lines.proofs.names.Names.name.Goals as goal

pub returns : goal.returns
returns c =
    name_at (held c.args.self) c.args.i _ (nth_from_yields_List _ _ _ c.nth.ensures.ran (YieldsList-from_slice_split _ (λ b. eqb b 44) c.args.self.bytes.now c.split.ensures.rest c.split.ensures.done c.split.ensures.closure (λ x b q k. search (rules, tests))))
