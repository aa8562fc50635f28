use Rattle.std.proofs.Common.{◌≡◌, eqb, rules, tests}
use Rattle.std.proofs.lemmas.Iterator.{IsFirst-from_position}
use Rattle.std.proofs.lemmas.Iterator.Splits.{YieldsList-from_slice_split}
use Rattle.lines.proofs.Naming.{place_of}
use Rattle.lines.specs.Told.{held}
use Rattle.lines.proofs.names.Names.find.Goals as goal

pub returns : goal.returns
returns c =
    let name = c.args.name.now in
    place_of (held c.args.self) name _ (IsFirst-from_position _ _ c.position.result (λ n. n ≡ name) (λ n. n ≡ name → ⊥) c.position.ensures.ran (YieldsList-from_slice_split _ (λ b. eqb b 44) c.args.self.bytes.now c.split.ensures.rest c.split.ensures.done c.split.ensures.closure (λ x b q k. search (rules, tests))) (λ x q k. search (rules, tests)) (λ x q k. search (rules, tests)))
