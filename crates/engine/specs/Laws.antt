-- The law on runs. A case is made of a book that means m, some calls are made on it, and a question is asked. The
-- order in force is then the last accepted one; a pair is barred when the last accepted bar or lift that named it was a
-- bar; an assignment is permitted when every table permits its row and it uses no barred pair.
use Rattle.std.specs.Prelude.{◌≡◌, ℕ, ◌<◌, Bool, true, ◌⊎◌, List, [], ◌∷◌, ◌++◌, length, take, IfOk, Some, None, Ok, Err, filter, Option, Result, slice_index_or}
use Rattle.weighing.specs.Semirings.{Better}
use Rattle.weighing.specs.Laws.{Algebra}
use Rattle.book.specs.Books.{Meaning}
use Rattle.book.specs.Layers.{barred}
use Rattle.book.specs.declared.refusal.Refusal.{Refusal}
use Rattle.book.specs.declared.refusal.QuestionCause.TheVariants.{NoAssignment}
use Rattle.aggregation.specs.Rows.{rows}
use Rattle.aggregation.specs.Listing.{Assignment, has_row, has_holder}
use Rattle.order.specs.Shapes.{shape_of}
use Rattle.permits.specs.Permits.{allowed, every, weight, either_of}
use Rattle.engine.specs.declared.call.Call.{Call}
use Rattle.engine.specs.declared.question.Question.{Question}
use Rattle.engine.specs.declared.question.Question.TheVariants.{Total, TableSheet, LockSheet, Assignment as Assigning}
use Rattle.engine.specs.declared.question.Answer.{Answer}
use Rattle.engine.specs.declared.question.Answer.TheVariants.{Weight, Written}
use Rattle.engine.specs.declared.call.Call.TheVariants.{Ask}
use Rattle.engine.specs.Questions.{asked_at, answered, question_refusal}
use Rattle.aggregation.specs.declared.join.Join.{Join}
use Rattle.engine.specs.Standing.{order_after, bars_after}
use Rattle.engine.specs.Memory.{Memory, Leaves}

-- what a list of calls leaves in the memory: each call leaves what it does as the case then stands
pub data Ran {W P : Type 0} (a : Algebra W P) (m : Meaning) (start : Memory P) : List Call → Memory P → Type 0 where
  idle : Ran a m start [] start
  more : {calls : List Call} {before after : Memory P} (c : Call) → Ran a m start calls before
      → Leaves a (barred (bars_after (shape_of m) calls) m) (order_after (shape_of m) calls) c before after
      → Ran a m start (calls ++ c ∷ []) after

-- m is what the book means, without the bars
module _ {W P : Type 0} (a : Algebra W P) (m : Meaning) (order : Option (List Join)) (bars : ℕ → ℕ → Bool) where
  -- the either over the weights of the permitted assignments among some, each taken once
  abbrev pub over_permitted : List (List ℕ) → W
  over_permitted some = either_of a m bars some

  -- every table permits its row, and it uses no barred pair
  abbrev pub Permitted : List ℕ → Type 0
  Permitted x = Assignment m.holders m.locks x × (allowed m bars x ≡ true)

  -- a best permitted assignment: its weight is the total, and no permitted one is better
  pub record Best (x : List ℕ) : Type 0 where
    pub permitted : Permitted x
    pub total : weight a m x ≡ over_permitted (every m)
    pub best : (y : List ℕ) → Permitted y → Better a.ops (weight a m y) (weight a m x) → ⊥

  -- The total is the either over all permitted assignments.
  abbrev pub TotalLaw : ℕ → Result W Refusal → Type 0
  TotalLaw n r = r ≡ answered (question_refusal (shape_of m) order Total n 0) (over_permitted (every m))

  -- Each number of a table's sheet is the same over just those with its row,
  abbrev pub TableLaw : ℕ → ℕ → List P → List P → Type 0
  TableLaw t n before after =
      question_refusal (shape_of m) order (TableSheet t) n (length before) ≡ None →
      (row : ℕ) → row < rows m.holders (m.scope t) →
      slice_index_or after row (a.plain a.ops.none) ≡ a.plain (over_permitted (filter (has_row (shape_of m) t row) (every m)))

  -- and each number of a lock's sheet over just those with its holder.
  abbrev pub LockLaw : ℕ → ℕ → List P → List P → Type 0
  LockLaw l n before after =
      question_refusal (shape_of m) order (LockSheet l) n (length before) ≡ None →
      (d : ℕ) → d < m.holders →
      slice_index_or after d (a.plain a.ops.none) ≡ a.plain (over_permitted (filter (has_holder l d) (every m)))

  -- An assignment is handed out exactly when there is a permitted one, and it is a best one.
  abbrev pub AssignmentLaw : {A : Type 0} → ℕ → List ℕ → List ℕ → Result A Refusal → Type 0
  AssignmentLaw n before after (Ok done) =
      (question_refusal (shape_of m) order Assigning n (length before) ≡ None) × Best (take m.locks after)
  AssignmentLaw n before after (Err e) =
      (question_refusal (shape_of m) order Assigning n (length before) ≡ Some e)
      ⊎ ((question_refusal (shape_of m) order Assigning n (length before) ≡ None) × (e ≡ asked_at 0 NoAssignment) × ((x : List ℕ) → Permitted x → ⊥))

  -- The law of a question, by the memory at its asking and after it.
  abbrev pub Law : Question → Memory P → Memory P → Result (Answer W) Refusal → Type 0
  Law Total before after r = r ≡ answered (question_refusal (shape_of m) order Total (length before.cells) 0) (Weight (over_permitted (every m)))
  Law (TableSheet t) before after r =
      (r ≡ answered (question_refusal (shape_of m) order (TableSheet t) (length before.cells) (length before.sheet)) Written)
      × TableLaw t (length before.cells) before.sheet after.sheet
  Law (LockSheet l) before after r =
      (r ≡ answered (question_refusal (shape_of m) order (LockSheet l) (length before.cells) (length before.sheet)) Written)
      × LockLaw l (length before.cells) before.sheet after.sheet
  Law Assigning before after r = AssignmentLaw (length before.cells) before.holders after.holders r × IfOk r (λ answer. answer ≡ Written)

-- The law on runs: a case is made of a book, any calls are made, some of them refused, and any question is asked next.
-- The calls leave some memory, the question leaves what it does as the case then stands, and its law holds.
pub record RanAsked {W P : Type 0} (a : Algebra W P) (m : Meaning) (calls : List Call) (q : Question) (start end : Memory P) (r : Result (Answer W) Refusal) : Type 0 where
  pub middle : Memory P
  pub ran : Ran a m start calls middle
  pub leaves : Leaves a (barred (bars_after (shape_of m) calls) m) (order_after (shape_of m) calls) (Ask q) middle end
  pub lengths : (length middle.cells ≡ length start.cells) × (length middle.sheet ≡ length start.sheet) × (length middle.holders ≡ length start.holders)
  pub law : Law a m (order_after (shape_of m) calls) (bars_after (shape_of m) calls) q middle end r
