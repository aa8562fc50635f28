-- The shape that is asked of a book is the book's.
use Rattle.std.proofs.Common.{◌≡◌}
use Rattle.book.specs.Books.{Meaning}
use Rattle.book.specs.BookShapes.{ShapeOf}
use Rattle.book.specs.declared.shape.BookShape.{BookShape}
use Rattle.order.specs.Shapes.{shape_of}
use Rattle.order.specs.BookShapes.{shape_in}

pub same_shape : (m : Meaning) (s : BookShape) → ShapeOf m s → shape_in s ≡ shape_of m
same_shape m s h = λ j. record { locks = h.locks j; holders = h.holders j; tables = h.tables j; scope = λ t. h.scopes t j }
