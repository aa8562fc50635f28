-- A run, call by call: how the case stands and what the memory holds are what the calls so far say.
use Rattle.std.proofs.Common.{◌≡◌, false, List, [], ◌∷◌, ◌++◌, length, None, Result, ap, ◌∙◌, subst, ap₂}
use Rattle.weighing.specs.Laws.{Algebra}
use Rattle.book.specs.Layers.{barred}
use Rattle.book.specs.declared.Book as books
use Rattle.book.specs.declared.refusal.Refusal.{Refusal}
use Rattle.order.specs.Shapes.{shape_of}
use Rattle.engine.specs.declared.call.Call.{Call}
use Rattle.engine.specs.declared.call.Call.TheVariants.{Ask}
use Rattle.engine.specs.declared.question.Question.{Question}
use Rattle.engine.specs.declared.question.Answer.{Answer}
use Rattle.engine.specs.declared.case.Case.{Case}
use Rattle.engine.specs.Views.{book_in, book_meaning, shape_now, bars_now, order_now, meaning_now}
use Rattle.engine.specs.Standing.{last_said, order_left, bars_left, order_after, bars_after}
use Rattle.engine.specs.Memory.{Memory, Leaves}
use Rattle.engine.specs.Laws.{Law, Ran, idle, more, RanAsked}
use Rattle.engine.proofs.Standings.{order_moves, bars_move}

module _ {B W P : Type 0} {g : books.Ghosts B} (a : Algebra W P) (b : B) (start : Memory P) where
  -- a case of the book b stands as after some calls, and these have left this memory
  pub record StandsAfter (case : Case B g) (calls : List Call) (memory : Memory P) : Type 0 where
    pub book : book_in case ≡ b
    pub order : order_now case ≡ order_after (shape_of (g.meaning b)) calls
    pub bars : bars_now case ≡ bars_after (shape_of (g.meaning b)) calls
    pub ran : Ran a (g.meaning b) start calls memory

  -- what a call leaves it leaves by the book, the calls so far and their bars
  leaves_then : (case : Case B g) (calls : List Call) (memory after : Memory P) → StandsAfter case calls memory → (c : Call) →
      Leaves a (meaning_now case) (order_now case) c memory after → Leaves a (barred (bars_after (shape_of (g.meaning b)) calls) (g.meaning b)) (order_after (shape_of (g.meaning b)) calls) c memory after
  leaves_then case calls memory after at c h =
      subst (λ m. Leaves a m (order_after (shape_of (g.meaning b)) calls) c memory after) (ap₂ (λ bars x. barred bars (g.meaning x)) at.bars at.book)
      (subst (λ o. Leaves a (meaning_now case) o c memory after) at.order h)

  pub stands_fresh : (case : Case B g) → book_in case ≡ b → order_now case ≡ None → bars_now case ≡ (λ l d. false) → StandsAfter case [] start
  unfolding last_said
  stands_fresh case book order bars = record { book = book; order = order; bars = bars; ran = idle }

  pub stands_more : (case next : Case B g) (calls : List Call) (c : Call) (memory after : Memory P) → StandsAfter case calls memory →
      order_now next ≡ order_left (shape_now case) (order_now case) c → bars_now next ≡ bars_left (shape_now case) (bars_now case) c →
      book_in next ≡ book_in case → Leaves a (meaning_now case) (order_now case) c memory after → StandsAfter next (calls ++ c ∷ []) after
  stands_more case next calls c memory after at order bars book leaves =
      let shape = ap (λ x. shape_of (g.meaning x)) at.book in
      let ranged = g.ranged b in
      record {
        book = book ∙ at.book;
        order = order ∙ ap₂ (λ s o. order_left s o c) shape at.order ∙ order_moves (shape_of (g.meaning b)) calls c;
        bars = bars ∙ ap₂ (λ s x. bars_left s x c) shape at.bars ∙ bars_move (shape_of (g.meaning b)) ranged.few_locks ranged.few_holders calls c;
        ran = more c at.ran (leaves_then case calls memory after at c leaves);
      }

  -- the question that is asked then has its law
  pub asked_after : (case : Case B g) (calls : List Call) (memory end : Memory P) (q : Question) (r : Result (Answer W) Refusal) → StandsAfter case calls memory →
      (length memory.cells ≡ length start.cells) × (length memory.sheet ≡ length start.sheet) × (length memory.holders ≡ length start.holders) →
      Leaves a (meaning_now case) (order_now case) (Ask q) memory end → Law a (book_meaning case) (order_now case) (bars_now case) q memory end r → RanAsked a (g.meaning b) calls q start end r
  asked_after case calls memory end q r at lengths leaves law = record {
    middle = memory;
    ran = at.ran;
    leaves = leaves_then case calls memory end at (Ask q) leaves;
    lengths = lengths;
    law =
        subst (λ x. Law a (g.meaning x) (order_after (shape_of (g.meaning b)) calls) (bars_after (shape_of (g.meaning b)) calls) q memory end r) at.book
        (subst (λ o. Law a (book_meaning case) o (bars_after (shape_of (g.meaning b)) calls) q memory end r) at.order
        (subst (λ x. Law a (book_meaning case) (order_now case) x q memory end r) at.bars law));
  }
