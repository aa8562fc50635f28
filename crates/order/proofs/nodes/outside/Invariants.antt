use Rattle.std.proofs.Common.{◌≡◌}
use Rattle.aggregation.specs.Sets.{un}
use Rattle.aggregation.specs.Nets.{scopes, occ}
use Rattle.order.specs.BookShapes.{shape_in}
use Rattle.order.specs.Marked.{marked}
use Rattle.order.proofs.nodes.outside.Given as goal

abbrev pub invariant-loop-t : goal.invariant-loop-t
invariant-loop-t l = marked l.locks ≡ occ (scopes (shape_in l.shape)) l.t (un (marked l.under))
