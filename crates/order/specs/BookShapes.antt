use Rattle.aggregation.specs.Nets.{Shape}
use Rattle.book.specs.declared.shape.BookShape.{BookShape}
use Rattle.book.specs.Shapes.{scope_at}

-- the shape that a copy holds
abbrev pub shape_in : BookShape → Shape
shape_in b = record { locks = b.locks; holders = b.holders; tables = b.tables; scope = scope_at b.scopes }
