use Rattle.std.proofs.Common.{◌≤◌, length, sym, subst, arith}
use Rattle.book.specs.Lists.{Rising, Below}
use Rattle.book.proofs.Shaped.{scope_none}
use Rattle.book.proofs.shape.BookShape.new.Goals as goal

pub invariant_of-result : goal.invariant_of-result
invariant_of-result c =
    let none = scope_none 64 c.none.result c.none.ensures in
    record {
      some_lock = omega arith;
      few_locks = omega arith;
      some_holder = omega arith;
      few_holders = omega arith;
      few_tables = omega arith;
      some_scope = λ t h. absurd (omega arith);
      short_scope = λ t. subst (λ xs. length xs ≤ 4) (sym (none t)) (omega arith);
      rising = λ t. subst Rising (sym (none t)) (λ k h. absurd (omega arith));
      below = λ t. subst (Below c.args.locks) (sym (none t)) (λ k h. absurd (omega arith));
      no_scope = λ t h. none t;
    }
