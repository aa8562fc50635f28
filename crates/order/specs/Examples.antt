-- The definitions at small shapes.
use Rattle.std.specs.Prelude.{◌≡◌, ℕ, true, false, [], ◌∷◌, Some, None, slice_index_or}
use Rattle.book.specs.declared.refusal.OrderCause.TheVariants.{BareLock, Unfit, TooWide}
use Rattle.aggregation.specs.declared.join.Join.{Join}
use Rattle.aggregation.specs.Nets.{Shape}
use Rattle.aggregation.specs.Orders.{kept_locks}
use Rattle.aggregation.specs.Examples.{triangle, in_turn}
use Rattle.order.specs.Aboves.{join_above}
use Rattle.order.specs.Refusals.{refused_at, order_refusal}
use Rattle.order.specs.Plans.{cells_needed}

abbrev pub join : ℕ → ℕ → Join
join l r = record { left = l; right = r }

-- three locks, and one table on the first two
abbrev pub bare_third : Shape
bare_third = record { locks = 3; holders = 2; tables = 1; scope = λ t. slice_index_or ((0 ∷ 1 ∷ []) ∷ []) t [] }

-- two tables of four locks each, with none in common
abbrev pub two_fours : Shape
two_fours = record { locks = 8; holders = 2; tables = 2; scope = λ t. slice_index_or ((0 ∷ 1 ∷ 2 ∷ 3 ∷ []) ∷ (4 ∷ 5 ∷ 6 ∷ 7 ∷ []) ∷ []) t [] }

-- the same, and a third table with one lock of the first
abbrev pub fours_and_one : Shape
fours_and_one = record { locks = 8; holders = 2; tables = 3; scope = λ t. slice_index_or ((0 ∷ 1 ∷ 2 ∷ 3 ∷ []) ∷ (4 ∷ 5 ∷ 6 ∷ 7 ∷ []) ∷ (0 ∷ []) ∷ []) t [] }

-- A table on each two of three locks, and three holders: tables 0 and 1 joined, and then table 2.
pub record InTurn : Type 0 where
  pub accepted : order_refusal (triangle 3) in_turn ≡ None
  pub kept_first : kept_locks (triangle 3) in_turn 0 ≡ 0 ∷ 2 ∷ []
  pub kept_second : kept_locks (triangle 3) in_turn 1 ≡ []
  pub cells : cells_needed (triangle 3) in_turn ≡ 20
  pub above_first : join_above in_turn 3 ≡ Some (record { join = 1; first = true })
  pub above_table : join_above in_turn 2 ≡ Some (record { join = 1; first = false })
  pub above_last : join_above in_turn 4 ≡ None

-- What is refused, and why: a lock in no table comes before the number of joins, and an unfit node before a joint scope
-- that is too wide.
pub record Refused : Type 0 where
  pub bare_first : order_refusal bare_third (join 0 0 ∷ join 0 0 ∷ []) ≡ Some (refused_at 2 BareLock)
  pub too_few : order_refusal (triangle 3) (join 0 1 ∷ []) ≡ Some (refused_at 1 Unfit)
  pub one_twice : order_refusal (triangle 3) (join 0 0 ∷ join 1 2 ∷ []) ≡ Some (refused_at 0 Unfit)
  pub unmade : order_refusal (triangle 3) (join 0 3 ∷ join 1 2 ∷ []) ≡ Some (refused_at 0 Unfit)
  pub used : order_refusal (triangle 3) (join 0 1 ∷ join 0 2 ∷ []) ≡ Some (refused_at 1 Unfit)
  pub wide : order_refusal two_fours (join 0 1 ∷ []) ≡ Some (refused_at 0 TooWide)
  pub unfit_first : order_refusal fours_and_one (join 0 2 ∷ join 0 1 ∷ []) ≡ Some (refused_at 1 Unfit)

abbrev pub OrderExamples : Type 0
OrderExamples = InTurn × Refused
