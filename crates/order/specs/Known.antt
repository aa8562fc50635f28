use Rattle.std.specs.Prelude.{◌≡◌, ℕ, ◌+◌, ◌<◌, List}
use Rattle.aggregation.specs.declared.join.Join.{Join}
use Rattle.aggregation.specs.Nets.{Shape}
use Rattle.aggregation.specs.Trees.{under, kept}
use Rattle.aggregation.specs.Orders.{forest}
use Rattle.order.specs.declared.nodes.Node.{Node}
use Rattle.order.specs.Marked.{under_at, keeps_at}

-- the marks are those of each node that stands after the first i joins: the tables beneath it, and the locks that it keeps
pub record Known (s : Shape) (js : List Join) (i : ℕ) (nodes : List Node) : Type 0 where
  pub unders : (k : ℕ) → k < s.tables + i → under_at nodes k ≡ under (forest s.tables js i k)
  pub keeps : (k : ℕ) → k < s.tables + i → keeps_at nodes k ≡ kept s (forest s.tables js i k)
