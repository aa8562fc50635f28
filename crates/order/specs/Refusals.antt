-- When a list of joins is refused as an order, and by which refusal.
use Rattle.std.specs.Prelude.{ℕ, ◌+◌, cond, List, length, Some, None, Option, ◌==◌}
use Rattle.book.specs.declared.refusal.Refusal.{Refusal}
use Rattle.book.specs.declared.refusal.Layer.TheVariants.{Order}
use Rattle.book.specs.declared.refusal.OrderCause.{OrderCause}
use Rattle.book.specs.declared.refusal.OrderCause.TheVariants.{BareLock, Unfit, TooWide}
use Rattle.aggregation.specs.declared.join.Join.{Join}
use Rattle.aggregation.specs.Sets.{all}
use Rattle.aggregation.specs.Nets.{Shape, has}
use Rattle.aggregation.specs.Orders.{unfit, wide}
use Rattle.order.specs.Firsts.{or_else, first}

-- a refusal at the layer of orders
abbrev pub refused_at : ℕ → OrderCause → Refusal
refused_at place cause = record { layer = Order place cause }

-- lock l is in no table
abbrev pub bare : Shape → ℕ → Option Refusal
bare s l = cond (has s all l) None (Some (refused_at l BareLock))

-- the joins are not one fewer than the tables
abbrev pub miscounted : Shape → List Join → Option Refusal
miscounted s js = cond (length js + 1 == s.tables) None (Some (refused_at (length js) Unfit))

-- join i names an unfit node, or else its joint scope has over six locks
abbrev pub fault : Shape → List Join → ℕ → Option Refusal
fault s js i = cond (unfit s js i) (Some (refused_at i Unfit)) (cond (wide s js i) (Some (refused_at i TooWide)) None)

-- why the joins are no order for the shape: the lowest lock in no table, then their number, then the first join at fault
abbrev pub order_refusal : Shape → List Join → Option Refusal
order_refusal s js = or_else (first (bare s) s.locks) (or_else (miscounted s js) (first (fault s js) (length js)))
