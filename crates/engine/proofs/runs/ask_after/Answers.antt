use Rattle.std.proofs.Common.{take, sym, refl, subst, take_all, rules}
use Rattle.std.proofs.lemmas.List.{take_more}
use Rattle.engine.specs.Views.{book_in}
use Rattle.engine.specs.Memory.{lent, memory_in}
use Rattle.engine.specs.Laws.{RanAsked}
use Rattle.engine.proofs.Running.{StandsAfter, stands_fresh, stands_more, asked_after}
use Rattle.engine.proofs.runs.ask_after.Goals as goal

pub loop-call-init : goal.loop-call-init
loop-call-init g c =
    let new = c.new-case in
    (search rules, stands_fresh g.W.Weighing.algebra (book_in new.result) _ new.result refl new.ensures.order new.ensures.bars)

pub loop-call-preserved : goal.loop-call-preserved
loop-call-preserved g c =
    let loop = c.loop-call in
    let then = c.perform in
    let a = g.W.Weighing.algebra in
    let start = lent c.args.cells.now c.args.sheet.now c.args.holders.now in
    let calls = c.args.calls.now in (
      search rules,
      subst (λ cs. StandsAfter a (book_in c.new-case.result) start then.new.case cs (memory_in then.new.lent)) (sym (take_more calls loop.call-index _ c.loop-call-test.true))
          (stands_more a (book_in c.new-case.result) start loop.case then.new.case (take loop.call-index calls) _ (memory_in loop.lent) (memory_in then.new.lent)
          loop.invariant.1 then.ensures.order then.ensures.bars then.ensures.same then.ensures.leaves),
    )

pub returns : goal.returns
returns g c =
    let loop = c.loop-call in
    let a = g.W.Weighing.algebra in
    let start = lent c.args.cells.now c.args.sheet.now c.args.holders.now in
    let calls = c.args.calls.now in
    let whole = subst (λ cs. StandsAfter a (book_in c.new-case.result) start loop.case cs (memory_in loop.lent)) (take_all loop.call-index calls c.loop-call-test.false) loop.invariant.1 in
    let asked = subst (λ b. RanAsked a (g.B.Book.meaning b) calls c.args.question start (memory_in c.ask.new.lent) c.ask.result) c.new-case.ensures.book
    (asked_after a (book_in c.new-case.result) start loop.case calls (memory_in loop.lent) (memory_in c.ask.new.lent) c.args.question c.ask.result whole loop.invariant.0.lengths c.ask.ensures.leaves c.ask.ensures.law) in
    subst (λ end. RanAsked a (g.B.Book.meaning c.args.book) calls c.args.question start end c.ask.result) (search rules) asked
