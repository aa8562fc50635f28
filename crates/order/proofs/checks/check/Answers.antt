use Rattle.std.proofs.Common.{◌≡◌, ℕ, ◌+◌, ◌^◌, List, length, Some, None, rules, sym, refl, ap, ◌∙◌, ap₂, arith, length-set}
use Rattle.book.specs.Scopes.{named}
use Rattle.aggregation.specs.Orders.{join_at, kept_locks, cells}
use Rattle.order.specs.BookShapes.{shape_in}
use Rattle.order.specs.Firsts.{first}
use Rattle.order.specs.Refusals.{fault, order_refusal}
use Rattle.order.specs.Sides.{side_of}
use Rattle.order.proofs.FirstOf.{first_none, first_more}
use Rattle.order.proofs.PlanMade.{at_progress, cells_none, cells_more, rows_more, past_two, first_fault, planned}
use Rattle.order.proofs.checks.check.Goals as goal

pub loop-i-init : goal.loop-i-init
loop-i-init c =
    let s = shape_in c.args.shape.now in
    let js = c.args.joins.now in
    let p = c.start-progress.ensures in
    (p.shape, p.joins, p.done, first_none (fault s js), refl, λ k h. absurd (omega arith), sym (cells_none s js), omega arith)

pub returns-in_err-kept : goal.returns-in_err-kept
returns-in_err-kept c =
    let s = shape_in c.args.shape.now in
    let js = c.args.joins.now in
    let i = c.loop-i.i in
    let inv = c.loop-i.invariant in
    let e = c.in_err-kept.field-0.0 in
    let found : fault s js i ≡ Some e = sym (at_progress fault inv.0 inv.1 inv.2) ∙ c.in_err-kept.ensures.sound in
    let refused : order_refusal s js ≡ Some e = first_fault s js i e c.in_ok-no_bare_lock.ensures (omega arith) (omega arith) inv.3 found in
    search rules

pub loop-i-preserved : goal.loop-i-preserved
loop-i-preserved c =
    let s = shape_in c.args.shape.now in
    let js = c.args.joins.now in
    let i = c.loop-i.i in
    let inv = c.loop-i.invariant in
    let took = c.in_ok-kept.ensures in
    let tables = c.tables-tables.ensures.value in
    let sound : fault s js i ≡ None = sym (at_progress fault inv.0 inv.1 inv.2) ∙ took.sound in
    let kept : named c.in_ok-kept.kept ≡ kept_locks s js i = took.kept ∙ at_progress kept_locks inv.0 inv.1 inv.2 in (
      took.shape ∙ inv.0,
      took.joins ∙ inv.1,
      took.taken ∙ ap (λ n. n + 1) inv.2,
      first_more (fault s js) i inv.3 ∙ sound,
      length-set _ _ _ ∙ inv.4,
      rows_more s js i c.loop-i.parts _ (omega arith) (c.of.ensures ∙ ap (λ T. side_of T (join_at js i).left) tables) (c.of-in-loop-i.ensures ∙ ap (λ T. side_of T (join_at js i).right) tables) kept inv.6 inv.5,
      ap₂ (λ (a b : ℕ). a + b) inv.6 (c.rows_over-cells.ensures.value ∙ ap₂ (λ (h : ℕ) (ls : List ℕ). h ^ length ls) c.holders.ensures.value kept) ∙ sym (cells_more s js i),
      omega (arith, inv.7, c.rows_over-cells.ensures.bound),
    )

pub returns : goal.returns
returns c =
    let s = shape_in c.args.shape.now in
    let js = c.args.joins.now in
    let inv = c.loop-i.invariant in
    let e : c.loop-i.i ≡ length js = omega arith in
    let counted : length js + 1 ≡ s.tables = omega arith in
    planned s js _ refl counted (past_two s js (c.in_ok-no_bare_lock.ensures) counted ∙ ap (first (fault s js)) (sym e) ∙ inv.3)
    (λ k h. inv.5 k (omega arith)) (inv.6 ∙ ap (cells s js) e)
