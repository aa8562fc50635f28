use Rattle.std.proofs.Common.{List, ℕ, ◌≤◌, length, subst, arith}
use Rattle.book.proofs.Shaped.{scope_read}
use Rattle.book.proofs.shape.BookShape.scope.Goals as goal

pub returns-then-table-self-clause-bound : goal.returns-then-table-self-clause-bound
returns-then-table-self-clause-bound c = let s = c.args.self.now in subst (λ (xs : List ℕ). length xs ≤ 4) (scope_read s.scopes c.args.table c.index-self-table.result (omega arith)) (s.short_scope c.args.table)
