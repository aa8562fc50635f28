use Rattle.std.proofs.Common.{◌≡◌, ℕ, ◌<◌}
use Rattle.book.specs.Shapes.{scope_at}
use Rattle.book.proofs.shape.BookShape.of.Given as goal

abbrev pub invariant-loop-t : goal.invariant-loop-t
invariant-loop-t g l = (t : ℕ) → t < l.t → scope_at l.scope-items t ≡ (g.B.Book.meaning l.book).scope t
