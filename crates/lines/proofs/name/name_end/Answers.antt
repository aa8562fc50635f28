use Rattle.std.proofs.Common.{◌≡◌, true, false, rules, tests}
use Rattle.std.proofs.lemmas.Iterator.{IsFirst-from_position, YieldsList-from_slice}
use Rattle.lines.specs.Names.{name_byte}
use Rattle.lines.proofs.Naming.{end_found}
use Rattle.lines.proofs.name.name_end.Goals as goal

pub returns : goal.returns
returns c =
    end_found _ _ (IsFirst-from_position _ _ c.position.result (λ b. name_byte b ≡ false) (λ b. name_byte b ≡ true) c.position.ensures.ran (YieldsList-from_slice c.args.bytes.now c.iter.ensures.rest) (λ x q k. search (rules, tests)) (λ x q k. search (rules, tests)))
