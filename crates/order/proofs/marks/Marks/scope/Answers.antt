use Rattle.std.proofs.Common.{◌≡◌, ◌<◌, false, [], ◌∷◌, ◌++◌, length, length-take, Some, None, Option, sym, refl, ap, ◌∙◌, arith}
use Rattle.std.proofs.lemmas.List.{get_or-take}
use Rattle.std.specs.Option.{MatchOption, IsSome}
use Rattle.book.specs.declared.scope.Scope.{Scope}
use Rattle.aggregation.specs.Sets.{listed}
use Rattle.order.specs.Marked.{marked}
use Rattle.order.proofs.Listed.{listed_none, listed_with, listed_without, room, listing_rising, listing_below}
use Rattle.aggregation.proofs.Listed.{listed_length}
use Rattle.order.proofs.marks.Marks.scope.Goals as goal
use Rattle.order.proofs.marks.Marks.scope.Goals.{then-on, else-on}

pub loop-k-init : goal.loop-k-init
loop-k-init c = let e = listed_none (marked c.args.self.now) in cc

pub push-requires : goal.push-requires
push-requires c =
    let s = marked c.args.self.now in
    let k = c.loop-k.k in
    let h : k < c.args.n = omega (arith, c.loop-k-test.true, length-take c.args.n c.args.self.now.on) in
    omega (arith, room c.args.n k s 6 h (sym (get_or-take c.args.n c.args.self.now.on k false h) ∙ c.if-on.true) c.requires.few, ap length c.loop-k.invariant, listed_length k s)

pub loop-k-preserved : goal.loop-k-preserved
loop-k-preserved c =
    let s = marked c.args.self.now in
    let k = c.loop-k.k in
    let at = get_or-take c.args.n c.args.self.now.on k false (omega (arith, c.loop-k-test.true, length-take c.args.n c.args.self.now.on)) in
    elim c.if-on.branch [
      | then-on w ↦ ap (λ v. v.items) w.locks-is ∙ w.push.ensures.items ∙ ap (λ xs. xs ++ k ∷ []) c.loop-k.invariant ∙ sym (listed_with k s (sym at ∙ w.if-on.true))
      | else-on w ↦ ap (λ v. v.items) w.locks-is ∙ c.loop-k.invariant ∙ sym (listed_without k s (sym at ∙ w.if-on.false))
    ]

-- what is not refused is there
there : (o : Option Scope) (P : Type 0) (Q : Scope → Type 0) → MatchOption o P Q → (P → ⊥) → IsSome o
there None P Q h n = absurd (n h)
there (Some a) P Q h n = refl

pub unwrap-requires : goal.unwrap-requires
unwrap-requires c =
    let s = marked c.args.self.now in
    let n = c.args.n in
    let e : c.as_slice.result.now ≡ listed n s = c.as_slice.ensures.value ∙ c.loop-k.invariant ∙ ap (λ m. listed m s) (omega (arith, length-take n c.args.self.now.on)) in
    there c.of.result _ _ c.of.ensures (λ long. omega (arith, long (listing_rising _ n s e) (listing_below _ n 64 s e c.requires.within), ap length e, listed_length n s, c.requires.few))
