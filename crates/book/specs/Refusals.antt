-- The number, the layer and the place of each refusal.
use Rattle.std.specs.Prelude.{ℕ, List, ◌++◌, codes}
use Rattle.std.specs.Fmt.{decimal}
use Rattle.book.specs.declared.refusal.Refusal.{Refusal}
use Rattle.book.specs.declared.refusal.Layer.{Layer}
use Rattle.book.specs.declared.refusal.Layer.TheVariants.{Line, Record, Book, Order, Question}
use Rattle.book.specs.declared.refusal.LineCause.{LineCause}
use Rattle.book.specs.declared.refusal.LineCause.TheVariants.{TooLong, NoForm}
use Rattle.book.specs.declared.refusal.RecordCause.{RecordCause}
use Rattle.book.specs.declared.refusal.RecordCause.TheVariants.{Misplaced, TooMany, WrongName, NotRising, NoRoom}
use Rattle.book.specs.declared.refusal.BookCause.{BookCause}
use Rattle.book.specs.declared.refusal.BookCause.TheVariants.{Apart}
use Rattle.book.specs.declared.refusal.OrderCause.{OrderCause}
use Rattle.book.specs.declared.refusal.OrderCause.TheVariants.{BareLock, Unfit, TooWide}
use Rattle.book.specs.declared.refusal.QuestionCause.{QuestionCause}
use Rattle.book.specs.declared.refusal.QuestionCause.TheVariants.{NoOrder, NotInBook, FewCells, ShortOutput, NoAssignment}

abbrev pub line_number : LineCause → ℕ
line_number TooLong = 1
line_number NoForm = 2

abbrev pub record_number : RecordCause → ℕ
record_number Misplaced = 3
record_number TooMany = 4
record_number WrongName = 5
record_number NotRising = 6
record_number NoRoom = 7

abbrev pub book_number : BookCause → ℕ
book_number Apart = 8

abbrev pub order_number : OrderCause → ℕ
order_number BareLock = 9
order_number Unfit = 10
order_number TooWide = 11

abbrev pub question_number : QuestionCause → ℕ
question_number NoOrder = 12
question_number NotInBook = 13
question_number FewCells = 14
question_number ShortOutput = 15
question_number NoAssignment = 16

abbrev pub layer_number : Layer → ℕ
layer_number (Line p c) = line_number c
layer_number (Record p c) = record_number c
layer_number (Book p c) = book_number c
layer_number (Order p c) = order_number c
layer_number (Question p c) = question_number c

abbrev pub layer_place : Layer → ℕ
layer_place (Line p c) = p
layer_place (Record p c) = p
layer_place (Book p c) = p
layer_place (Order p c) = p
layer_place (Question p c) = p

-- the refusal's number, 1 to 16
abbrev pub number : Refusal → ℕ
number r = layer_number r.layer

-- where it applies: a line, a lock, a join, a need: what the number says
abbrev pub place : Refusal → ℕ
place r = layer_place r.layer

-- the layer's word
abbrev pub layer_word : Layer → List ℕ
layer_word (Line p c) = codes "line"
layer_word (Record p c) = codes "record"
layer_word (Book p c) = codes "book"
layer_word (Order p c) = codes "order"
layer_word (Question p c) = codes "question"

abbrev pub word : Refusal → List ℕ
word r = layer_word r.layer

-- as a program prints it
abbrev pub printed : Refusal → List ℕ
printed r = codes "refusal=" ++ decimal (number r) ++ codes "," ++ word r ++ codes "," ++ decimal (place r)

-- two books do not go together
abbrev pub apart : Refusal
apart = record { layer = Book 0 Apart }
