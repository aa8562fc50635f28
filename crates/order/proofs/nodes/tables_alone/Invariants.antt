use Rattle.std.proofs.Common.{◌≡◌, ℕ, ◌<◌, eqb}
use Rattle.aggregation.specs.Nets.{scopes}
use Rattle.order.specs.BookShapes.{shape_in}
use Rattle.order.specs.Marked.{under_at, keeps_at}
use Rattle.order.proofs.nodes.tables_alone.Given as goal

abbrev pub invariant-loop-t : goal.invariant-loop-t
invariant-loop-t l =
    ((k : ℕ) → k < l.t → under_at l.node-items k ≡ (λ u. eqb u k))
    × ((k : ℕ) → k < l.t → keeps_at l.node-items k ≡ scopes (shape_in l.shape) k)
