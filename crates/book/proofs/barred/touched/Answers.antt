use Rattle.std.proofs.Common.{length, get_or, sym, ap, ◌∙◌, arith}
use Rattle.book.specs.Layers.{bar_at}
use Rattle.book.specs.Scopes.{named}
use Rattle.book.proofs.Numbers.{pow_small, place_more, place_some}
use Rattle.book.proofs.Touches.{touch_here, touch_more, touch_all}
use Rattle.book.proofs.barred.touched.Goals as goal

pub pow-place-requires : goal.pow-place-requires
pow-place-requires c = omega (arith, pow_small c.args.holders c.len.result c.requires.0 c.requires.1 (omega arith))

pub nonzero_div-digit : goal.nonzero_div-digit
nonzero_div-digit c = place_some c.args.holders (length (named c.args.scope.now)) c.loop-lock.lock-index c.loop-lock.place c.requires.0 (omega (arith, ap length c.as_slice-lock-items.ensures)) c.loop-lock.invariant.0

pub nonzero_rem-left : goal.nonzero_rem-left
nonzero_rem-left c = place_some c.args.holders (length (named c.args.scope.now)) c.loop-lock.lock-index c.loop-lock.place c.requires.0 (omega (arith, ap length c.as_slice-lock-items.ensures)) c.loop-lock.invariant.0

pub returns-then-bar : goal.returns-then-bar
returns-then-bar c =
    let here = touch_here (bar_at c.args.bars.now) c.args.holders (named c.args.scope.now) c.loop-lock.lock-index c.loop-lock.left c.loop-lock.place _ c.requires.0 (omega (arith, ap length c.as_slice-lock-items.ensures)) c.loop-lock.invariant.0 (ap (λ ls. get_or ls c.loop-lock.lock-index 0) c.as_slice-lock-items.ensures) in
    sym (c.loop-lock.invariant.1 ∙ here c.if-bar.ensures)

pub loop-lock-preserved : goal.loop-lock-preserved
loop-lock-preserved c =
    let more = touch_more (bar_at c.args.bars.now) c.args.holders (named c.args.scope.now) c.loop-lock.lock-index c.loop-lock.left c.loop-lock.place _ c.requires.0 (omega (arith, ap length c.as_slice-lock-items.ensures)) c.loop-lock.invariant.0 (ap (λ ls. get_or ls c.loop-lock.lock-index 0) c.as_slice-lock-items.ensures) in (
      place_more c.args.holders (length (named c.args.scope.now)) c.loop-lock.lock-index c.loop-lock.place c.requires.0 (omega (arith, ap length c.as_slice-lock-items.ensures)) c.loop-lock.invariant.0,
      c.loop-lock.invariant.1 ∙ more c.if-bar.ensures,
    )

pub returns : goal.returns
returns c = sym (c.loop-lock.invariant.1 ∙ touch_all (bar_at c.args.bars.now) c.args.holders (named c.args.scope.now) c.loop-lock.lock-index c.loop-lock.left (omega (arith, ap length c.as_slice-lock-items.ensures)))
