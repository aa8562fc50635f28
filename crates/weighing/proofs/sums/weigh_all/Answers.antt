use Rattle.std.proofs.Common.{◌≡◌, map, refl, subst, rules}
use Rattle.std.proofs.lemmas.Fn.{fold_over, slice_gives, fronts}
use Rattle.weighing.specs.Semirings.{both_over}
use Rattle.weighing.proofs.Gathers.{gathers_push}
use Rattle.weighing.proofs.sums.weigh_all.Goals as goal

pub returns : goal.returns
unfolding both_over
returns g c =
    let a = g.W.Weighing.algebra in
    let s = g.met.W.Weighing.lawful.semiring in
    subst (λ cs. c.fold.result ≡ both_over a.ops (map a.weighed cs)) c.iter.ensures.rest
    (fold_over fronts (λ y. y.now) _ (λ ys w. w ≡ both_over a.ops (map a.weighed ys)) _
    (λ ys z x b f' j k. let more = gathers_push a.ops.both a.ops.free a.weighed (λ cs. both_over a.ops (map a.weighed cs)) refl (λ w ws. refl) s.both_assoc s.both_comm ys x.now in search rules)
    _ _ _ _ (slice_gives c.iter.result) c.free.ensures c.fold.ensures.ran)
