use Rattle.std.specs.Prelude.{ℕ, false, List, [], slice_index_or}
use Rattle.aggregation.specs.Sets.{Set}
use Rattle.order.specs.declared.marks.Marks.{Marks}
use Rattle.order.specs.declared.nodes.Node.{Node}

-- the numbers that are marked
abbrev pub marked : Marks → Set
marked m = λ k. slice_index_or m.on k false

-- a node of which nothing is known
abbrev pub no_node : Node
no_node = record { under = record { on = [] }; keeps = record { on = [] } }

-- the tables beneath the node at a place of a list, and the locks that it keeps
abbrev pub under_at : List Node → ℕ → Set
under_at nodes k = marked (slice_index_or nodes k no_node).under

abbrev pub keeps_at : List Node → ℕ → Set
keeps_at nodes k = marked (slice_index_or nodes k no_node).keeps
