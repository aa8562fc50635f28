use Rattle.std.proofs.Common.{◌≡◌, ℕ, ◌<◌, ◌≤◌, List, length, sym, ◌∙◌, subst, arith}
use Rattle.book.specs.Lists.{Rising, Below}
use Rattle.book.specs.Shapes.{scope_at}
use Rattle.book.proofs.Shaped.{scopes_more, scopes_all}
use Rattle.book.proofs.shape.BookShape.of.Goals as goal

pub loop-t-preserved : goal.loop-t-preserved
loop-t-preserved g c = scopes_more (g.B.Book.meaning c.args.book.now).scope c.loop-t.scope-items c.loop-t.t c.scope.result (omega arith) c.scope.ensures c.loop-t.invariant

pub invariant_of-result : goal.invariant_of-result
invariant_of-result g c =
    let m = g.B.Book.meaning c.args.book.now in
    let r = g.B.Book.ranged c.args.book.now in
    let same : (t : ℕ) → scope_at c.loop-t.scope-items t ≡ m.scope t = scopes_all m.scope c.loop-t.scope-items 64 (omega arith) (λ t h. c.loop-t.invariant t (omega arith)) (λ t h. r.no_scope t (omega (arith, r.few_tables))) in
    record {
      some_lock = omega (arith, r.some_lock);
      few_locks = omega (arith, r.few_locks);
      some_holder = omega (arith, r.some_holder);
      few_holders = omega (arith, r.few_holders);
      few_tables = omega (arith, r.few_tables);
      some_scope = λ t h. subst (λ (ls : List ℕ). 0 < length ls) (sym (same t)) (r.some_scope t (omega arith));
      short_scope = λ t. subst (λ (ls : List ℕ). length ls ≤ 4) (sym (same t)) (r.short_scope t);
      rising = λ t. subst Rising (sym (same t)) (r.rising t);
      below = λ t. subst (Below c.locks.result) (sym (same t)) (subst (λ n. Below n (m.scope t)) (sym c.locks.ensures) (r.below t));
      no_scope = λ t h. same t ∙ r.no_scope t (omega arith);
    }

pub returns : goal.returns
returns g c =
    let m = g.B.Book.meaning c.args.book.now in
    let r = g.B.Book.ranged c.args.book.now in
    record {
      locks = c.locks.ensures;
      holders = c.holders.ensures;
      tables = c.tables.ensures;
      scopes = scopes_all m.scope c.loop-t.scope-items 64 (omega arith) (λ t h. c.loop-t.invariant t (omega arith)) (λ t h. r.no_scope t (omega (arith, r.few_tables)));
    }
