use Rattle.std.proofs.Common.{◌≡◌, ◌<◌, ◌≤◌, [], length, rules, arith}
use Rattle.book.specs.Lists.{Rising, Below}
use Rattle.book.specs.Scopes.{named}
use Rattle.book.specs.Shapes.{Fit}
use Rattle.book.proofs.Shaped.{scope_each}
use Rattle.book.proofs.shape.BookShape.add.Goals as goal

pub invariant_of-self : goal.invariant_of-self
invariant_of-self c =
    let s = c.args.self.now in
    let room : s.tables < length s.scopes = omega arith in
    let fit : Fit s.locks (named c.args.scope) = c.if-not-fits.ensures.0 (search rules) in
    record {
      some_lock = s.some_lock;
      few_locks = s.few_locks;
      some_holder = s.some_holder;
      few_holders = s.few_holders;
      few_tables = omega arith;
      some_scope = λ t h. scope_each s.scopes s.tables c.args.scope (λ xs. 0 < length xs) t room (λ _. fit.some) (λ n. s.some_scope t (omega arith));
      short_scope = λ t. scope_each s.scopes s.tables c.args.scope (λ xs. length xs ≤ 4) t room (λ _. fit.short) (λ _. s.short_scope t);
      rising = λ t. scope_each s.scopes s.tables c.args.scope Rising t room (λ _. c.args.scope.rising) (λ _. s.rising t);
      below = λ t. scope_each s.scopes s.tables c.args.scope (Below s.locks) t room (λ _. fit.below) (λ _. s.below t);
      no_scope = λ t h. scope_each s.scopes s.tables c.args.scope (λ xs. xs ≡ []) t room (λ e. absurd (omega arith)) (λ _. s.no_scope t (omega arith));
    }
