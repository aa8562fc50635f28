use Rattle.std.proofs.Common.{refl}
use Rattle.aggregation.specs.Sets.{among, size, listed}
use Rattle.aggregation.specs.Nets.{occ}
use Rattle.aggregation.specs.Trees.{under, kept}
use Rattle.aggregation.specs.Orders.{used, forest, cells}
use Rattle.order.specs.Firsts.{first}
use Rattle.order.specs.Examples.{InTurn, Refused}
use Rattle.order.proofs.theorems.order_examples_hold.Goals as goal

in_turn_is : InTurn
unfolding among size listed occ under kept used forest cells first
in_turn_is = record { accepted = refl; kept_first = refl; kept_second = refl; cells = refl; above_first = refl; above_table = refl; above_last = refl }

refused_are : Refused
unfolding among size listed occ under kept used forest cells first
refused_are = record { bare_first = refl; too_few = refl; one_twice = refl; unmade = refl; used = refl; wide = refl; unfit_first = refl }

pub returns : goal.returns
returns c = (in_turn_is, refused_are)
