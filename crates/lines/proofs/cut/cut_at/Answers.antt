use Rattle.std.proofs.Common.{◌≡◌, arith, rules, tests}
use Rattle.std.proofs.lemmas.Iterator.{IsFirst-from_position, YieldsList-from_slice}
use Rattle.lines.specs.Cuts.{mark_byte}
use Rattle.lines.proofs.Cutting.{IsPlace, cut_here, lacks_cut}
use Rattle.lines.proofs.cut.cut_at.Goals as goal

pub returns-in_err-i : goal.returns-in_err-i
returns-in_err-i c =
    let place : IsPlace (mark_byte c.args.mark) c.args.bytes.now c.position.result = IsFirst-from_position _ _ c.position.result (λ b. b ≡ mark_byte c.args.mark) (λ b. b ≡ mark_byte c.args.mark → ⊥) c.position.ensures.ran (YieldsList-from_slice c.args.bytes.now c.iter.ensures.rest) (λ x q k. search (rules, tests)) (λ x q k. search (rules, tests)) in
    rw c.from_residual.ensures (λ x y e. lacks_cut _ x y _ (let none = rw c.in_err-i.was at place in λ k d l. none k d (omega arith) l) e)

pub returns : goal.returns
returns c =
    let place : IsPlace (mark_byte c.args.mark) c.args.bytes.now c.position.result = IsFirst-from_position _ _ c.position.result (λ b. b ≡ mark_byte c.args.mark) (λ b. b ≡ mark_byte c.args.mark → ⊥) c.position.ensures.ran (YieldsList-from_slice c.args.bytes.now c.iter.ensures.rest) (λ x q k. search (rules, tests)) (λ x q k. search (rules, tests)) in
    cut_here _ _ _ (rw c.in_ok-i.was at place)
