-- When a question is refused, and by which refusal: the first that applies, in the order of these definitions.
use Rattle.std.specs.Prelude.{◌≡◌, ℕ, ◌<◌, ◌≤◌, cond, List, [], Some, None, Ok, Err, Option, Result, nat_lt}
use Rattle.book.specs.declared.refusal.Refusal.{Refusal}
use Rattle.book.specs.declared.refusal.QuestionCause.{QuestionCause}
use Rattle.book.specs.declared.refusal.QuestionCause.TheVariants.{NoOrder, NotInBook, FewCells, ShortOutput}
use Rattle.book.specs.declared.refusal.Layer.TheVariants.{Question as AtQuestion}
use Rattle.aggregation.specs.declared.join.Join.{Join}
use Rattle.aggregation.specs.Nets.{Shape}
use Rattle.aggregation.specs.Rows.{rows}
use Rattle.order.specs.Firsts.{or_else}
use Rattle.order.specs.declared.plan.Plan.{Plan}
use Rattle.order.specs.Plans.{Ordered, joins_of, cells_needed}
use Rattle.engine.specs.declared.question.Question.{Question}
use Rattle.engine.specs.declared.question.Question.TheVariants.{Total, TableSheet, LockSheet, Assignment as Assigning}

-- a refusal at the layer of questions
abbrev pub asked_at : ℕ → QuestionCause → Refusal
asked_at place cause = record { layer = AtQuestion place cause }

-- what a call answers: the refusal, where there is one, and else this
abbrev pub answered : {A : Type 0} → Option Refusal → A → Result A Refusal
answered None x = Ok x
answered (Some e) x = Err e

-- what a call leaves: what was, where it is refused, and else this
abbrev pub left_by : {A : Type 0} → Option Refusal → A → A → A
left_by None after before = after
left_by (Some e) after before = before

-- no order has been set
abbrev pub no_order : Option (List Join) → Option Refusal
no_order None = Some (asked_at 0 NoOrder)
no_order (Some js) = None

-- the joins of the order in force; none where there is none
abbrev pub joins_in : Option (List Join) → List Join
joins_in None = []
joins_in (Some js) = js

-- number k is not below n
abbrev pub beyond : ℕ → ℕ → Option Refusal
beyond k n = cond (nat_lt k n) None (Some (asked_at k NotInBook))

-- n cells are fewer than needed, or n places of output
abbrev pub few_cells : ℕ → ℕ → Option Refusal
few_cells need n = cond (nat_lt n need) (Some (asked_at need FewCells)) None

abbrev pub short_output : ℕ → ℕ → Option Refusal
short_output need n = cond (nat_lt n need) (Some (asked_at need ShortOutput)) None

-- a pair is not in the book: the lock is asked for first
abbrev pub pair_refusal : Shape → ℕ → ℕ → Option Refusal
pair_refusal s lock holder = or_else (beyond lock s.locks) (beyond holder s.holders)

module _ (s : Shape) where
  -- a question names a table or a lock that is not in the book
  abbrev pub named_refusal : Question → Option Refusal
  named_refusal Total = None
  named_refusal (TableSheet t) = beyond t s.tables
  named_refusal (LockSheet l) = beyond l s.locks
  named_refusal Assigning = None

  -- the places of output that an answer takes: a number for each row, for each holder, a holder for each lock
  abbrev pub places : Question → ℕ
  places Total = 0
  places (TableSheet t) = rows s.holders (s.scope t)
  places (LockSheet l) = s.holders
  places Assigning = s.locks

  -- the cells that a question needs
  abbrev pub need : Option (List Join) → ℕ
  need order = cells_needed s (joins_in order)

  -- why a question with n cells and this much output is refused, before anything is computed
  abbrev pub question_refusal : Option (List Join) → Question → ℕ → ℕ → Option Refusal
  question_refusal order q n out =
      or_else (no_order order) (or_else (named_refusal q) (or_else (few_cells (need order) n) (short_output (places q) out)))

  -- a question names only a table or a lock of the book
  abbrev pub Named : Question → Type 0
  Named Total = Unit {0}
  Named (TableSheet t) = t < s.tables
  Named (LockSheet l) = l < s.locks
  Named Assigning = Unit {0}

  -- nothing refuses a question, so it is answered by this plan, for which there is room
  pub record Ready (order : Option (List Join)) (q : Question) (n out : ℕ) (p : Plan) : Type 0 where
    pub free : question_refusal order q n out ≡ None
    pub in_force : order ≡ Some (joins_of p)
    pub ordered : Ordered s p
    pub named : Named q
    pub cells : cells_needed s (joins_of p) ≤ n
    pub places : places q ≤ out
