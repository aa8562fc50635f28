use Rattle.std.proofs.Common.{not, sym, ap, ◌∙◌}
use Rattle.aggregation.specs.Sets.{Set, un, among, ◌∪◌}
use Rattle.aggregation.specs.Nets.{scopes, occ}
use Rattle.order.specs.BookShapes.{shape_in}
use Rattle.order.specs.Marked.{marked}
use Rattle.order.proofs.KnownNodes.{occ_in, occ_out}
use Rattle.order.proofs.nodes.outside.Goals as goal
use Rattle.order.proofs.nodes.outside.Goals.{then-not-holds, else-not-holds}

pub loop-t-init : goal.loop-t-init
unfolding occ
loop-t-init c = c.none-locks.ensures

pub loop-t-preserved : goal.loop-t-preserved
loop-t-preserved c =
    let s = shape_in c.args.shape.now in
    let u = un (marked c.args.under.now) in
    let t = c.loop-t.t in
    elim c.if-not-holds.branch [
      | then-not-holds w ↦ ap marked w.locks-is ∙ w.or-locks.ensures ∙ ap (λ (x : Set). marked w.of.result ∪ x) c.loop-t.invariant
          ∙ occ_in (scopes s) t u (marked w.of.result) (ap not (sym c.holds.ensures ∙ w.if-not-holds.true)) (sym (w.of.ensures ∙ ap among w.scope.ensures.value))
      | else-not-holds w ↦ ap marked w.locks-is ∙ c.loop-t.invariant ∙ occ_out (scopes s) t u (ap not (sym c.holds.ensures ∙ w.if-not-holds.false))
    ]
