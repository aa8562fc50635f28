use Rattle.std.proofs.Common.{◌≡◌, ℕ, ◌+◌, ◌<◌, Bool, true, false, length, get_or, take, set, sym, refl, ap, ◌∙◌, subst, arith, length-set}
use Rattle.book.specs.Scopes.{named}
use Rattle.aggregation.specs.Sets.{among}
use Rattle.order.proofs.Masked.{none_marked, among_more}
use Rattle.order.proofs.marks.Marks.of.Goals as goal

pub loop-lock-init : goal.loop-lock-init
unfolding among
loop-lock-init c = (refl, λ k. ap (λ (f : ℕ → Bool). f k) (none_marked 64))

pub loop-lock-preserved : goal.loop-lock-preserved
loop-lock-preserved c =
    let ls = named c.args.scope.now in
    let i = c.loop-lock.lock-index in
    let e = c.as_slice-lock-items.ensures in
    let within : i < length ls = omega (arith, ap length e) in
    let small : get_or ls i 0 < length c.loop-lock.on = omega (arith, c.args.scope.now.below i within) in
    (length-set _ _ _ ∙ c.loop-lock.invariant.0, subst (λ xs. (k : ℕ) → get_or (set c.loop-lock.on (get_or xs i 0) true) k false ≡ among (take (i + 1) ls) k) (sym e) (among_more ls c.loop-lock.on i within small c.loop-lock.invariant.1))
