use Rattle.std.proofs.Common.{◌≡◌, eqb, length, length-take, take, replicate, ap, ◌∙◌, arith}
use Rattle.std.proofs.lemmas.List.{length-replicate}
use Rattle.aggregation.specs.Sets.{among}
use Rattle.aggregation.specs.Nets.{scopes}
use Rattle.order.specs.declared.nodes.Node.{Node}
use Rattle.order.specs.Marked.{marked, no_node}
use Rattle.order.specs.BookShapes.{shape_in}
use Rattle.order.proofs.KnownNodes.{known_none}
use Rattle.order.proofs.Places.{places_more}
use Rattle.order.proofs.nodes.tables_alone.Goals as goal

pub loop-t-preserved : goal.loop-t-preserved
loop-t-preserved c =
    let i = c.loop-t.invariant in (
      places_more (λ (n : Node). marked n.under) no_node (λ k. λ u. eqb u k) c.loop-t.node-items c.loop-t.t _ (omega arith) c.one.ensures i.0,
      places_more (λ (n : Node). marked n.keeps) no_node (scopes (shape_in c.args.shape.now)) c.loop-t.node-items c.loop-t.t _ (omega arith) (c.of.ensures ∙ ap among c.scope.ensures.value) i.1,
    )

pub returns : goal.returns
returns c = λ js.
    let none : Node = record { under = c.none.result; keeps = c.none-2.result } in
    let long : length c.loop-t.node-items ≡ length (take c.tables.result (replicate 128 none)) = c.loop-t.auto.node-items in
    let counted : length c.loop-t.node-items ≡ c.args.shape.now.tables = omega (arith, long, length-take c.tables.result (replicate 128 none), length-replicate 128 none) in
    known_none (shape_in c.args.shape.now) js c.loop-t.node-items _ counted (λ k h. c.loop-t.invariant.0 k (omega arith)) (λ k h. c.loop-t.invariant.1 k (omega arith))
