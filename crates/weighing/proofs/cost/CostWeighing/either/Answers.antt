use Rattle.std.proofs.Common.{◌≡◌, min, rules}
use Rattle.weighing.specs.Capping.{cut_is}
use Rattle.weighing.proofs.cost.CostWeighing.either.Goals as goal

pub returns-in-Some-Some : goal.returns-in-Some-Some
returns-in-Some-Some c =
    let x = c.in-Some-Some.x.value in
    let y = c.in-Some-Some.y.value in
    let value : c.min.result.value ≡ min (min x y) 1000000000 = search rules in
    let least = cut_is c.min.result (min x y) value in
    search rules
