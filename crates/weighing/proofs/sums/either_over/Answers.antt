use Rattle.std.proofs.Common.{◌≡◌, refl, subst, rules}
use Rattle.std.proofs.lemmas.Fn.{fold_over, slice_gives, fronts}
use Rattle.weighing.specs.Semirings.{either_over}
use Rattle.weighing.proofs.Gathers.{gathers_push}
use Rattle.weighing.proofs.sums.either_over.Goals as goal

pub returns : goal.returns
unfolding either_over
returns g c =
    let o = g.W.Weighing.algebra.ops in
    let s = g.met.W.Weighing.lawful.semiring in
    subst (λ ws. c.fold.result ≡ either_over o ws) c.iter.ensures.rest
    (fold_over fronts (λ y. y.now) _ (λ ys w. w ≡ either_over o ys) _
    (λ ys a x b f' j k. let more = gathers_push o.either o.none (λ w. w) (either_over o) refl (λ w ws. refl) s.either_assoc s.either_comm ys x.now in search rules)
    _ _ _ _ (slice_gives c.iter.result) c.none.ensures c.fold.ensures.ran)
