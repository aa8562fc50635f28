-- What a case holds, seen from outside.
use Rattle.std.specs.Prelude.{ℕ, Bool, List, length, Some, None, Option}
use Rattle.book.specs.Books.{Meaning}
use Rattle.book.specs.Layers.{barred, bar_at}
use Rattle.book.specs.declared.Book as books
use Rattle.aggregation.specs.declared.join.Join.{Join}
use Rattle.aggregation.specs.Nets.{Shape}
use Rattle.order.specs.Shapes.{shape_of}
use Rattle.engine.specs.declared.case.Case.{Case}
use Rattle.engine.specs.Cases.{in_force}

-- how many joins an order has, where there is one
abbrev pub order_length : Option (List Join) → Option ℕ
order_length None = None
order_length (Some js) = Some (length js)

module _ {B : Type 0} {g : books.Ghosts B} (c : Case B g) where
  -- its book
  abbrev pub book_in : B
  book_in = c.book.book.book

  -- what its book means, without the bars
  abbrev pub book_meaning : Meaning
  book_meaning = g.meaning book_in

  -- the shape of its book
  abbrev pub shape_now : Shape
  shape_now = shape_of book_meaning

  -- the pairs that are barred
  abbrev pub bars_now : ℕ → ℕ → Bool
  bars_now = bar_at c.book.bars

  -- the order in force
  abbrev pub order_now : Option (List Join)
  order_now = in_force c.plan

  -- what it means to its questions: its book, where no pair is barred
  abbrev pub meaning_now : Meaning
  meaning_now = barred bars_now book_meaning
