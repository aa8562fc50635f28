use Rattle.std.proofs.Common.{Bool, false, ◌||◌, refl, arith}
use Rattle.order.proofs.Places.{places_more}
use Rattle.order.specs.Marked.{marked}
use Rattle.order.proofs.Masked.{filled_all, past_or}
use Rattle.order.proofs.marks.Marks.or.Goals as goal

pub loop-k-preserved : goal.loop-k-preserved
loop-k-preserved c = places_more (λ (b : Bool). b) false (λ k. marked c.args.self.now k || marked c.args.other.now k) c.loop-k.mark-items c.loop-k.k _ (omega arith) refl c.loop-k.invariant

pub returns : goal.returns
returns c = filled_all (λ k. marked c.args.self.now k || marked c.args.other.now k) c.loop-k.mark-items 64 (omega arith) (λ k h. c.loop-k.invariant k (omega arith)) (λ k h. past_or c.args.self.now.on c.args.other.now.on k (omega arith) (omega arith))
