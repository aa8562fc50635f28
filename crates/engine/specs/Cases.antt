-- What a case holds.
use Rattle.std.specs.Prelude.{List, Some, None, Option}
use Rattle.book.specs.declared.refusal.Refusal.{Refusal}
use Rattle.aggregation.specs.declared.join.Join.{Join}
use Rattle.order.specs.declared.plan.Plan.{Plan}
use Rattle.order.specs.Plans.{joins_of}

-- the order in force
abbrev pub in_force : Option Plan → Option (List Join)
in_force None = None
in_force (Some p) = Some (joins_of p)

-- the order in force after an order call: the new one, unless it is refused
abbrev pub ordered : Option Refusal → List Join → Option (List Join) → Option (List Join)
ordered None js before = Some js
ordered (Some e) js before = before
