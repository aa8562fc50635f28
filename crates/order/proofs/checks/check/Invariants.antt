use Rattle.std.proofs.Common.{◌≡◌, ℕ, ◌*◌, ◌<◌, ◌≤◌, map, length, get_or, None}
use Rattle.aggregation.specs.Orders.{cells}
use Rattle.order.specs.BookShapes.{shape_in}
use Rattle.order.specs.Firsts.{first}
use Rattle.order.specs.Refusals.{fault}
use Rattle.order.specs.Rows.{row, row_of, no_row}
use Rattle.order.proofs.checks.check.Given as goal

abbrev pub invariant-loop-i : goal.invariant-loop-i
invariant-loop-i l =
    let s = shape_in l.shape in
    (l.progress.shape.now ≡ l.shape)
    × (l.progress.joins.now ≡ l.joins)
    × (l.progress.done ≡ l.i)
    × (first (fault s l.joins) l.i ≡ None)
    × (length l.parts ≡ 64)
    × ((k : ℕ) → k < l.i → get_or (map row_of l.parts) k no_row ≡ row s l.joins k)
    × (l.cells ≡ cells s l.joins l.i)
    × (l.cells ≤ l.i * 16777216)
