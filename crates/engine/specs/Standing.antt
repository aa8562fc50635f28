-- How a case stands after a list of calls: by the last accepted order, and for each pair by the last accepted bar or
-- lift that named it.
use Rattle.std.specs.Prelude.{ℕ, Bool, true, false, cond, ◌&&◌, List, [], ◌∷◌, Some, None, Option, ◌==◌}
use Rattle.book.specs.declared.refusal.Refusal.{Refusal}
use Rattle.aggregation.specs.declared.join.Join.{Join}
use Rattle.aggregation.specs.Nets.{Shape}
use Rattle.order.specs.Firsts.{or_else}
use Rattle.order.specs.Refusals.{order_refusal}
use Rattle.engine.specs.declared.call.Call.{Call}
use Rattle.engine.specs.declared.call.Call.TheVariants.{Order, Bar, Lift, Ask}
use Rattle.book.specs.Layers.{bar_put}
use Rattle.engine.specs.Cases.{ordered}
use Rattle.engine.specs.Questions.{left_by, pair_refusal}

-- of the calls that say something, what the last one says
unfoldable pub last_said : {A : Type 0} → (Call → Option A) → List Call → Option A
last_said says [] = None
last_said says (c ∷ cs) = or_else (last_said says cs) (says c)

-- something is said only where nothing is refused
abbrev pub accepted : {A : Type 0} → Option Refusal → A → Option A
accepted None x = Some x
accepted (Some e) x = None

-- the order that a call sets, if it is accepted
abbrev pub order_by : Shape → Call → Option (List Join)
order_by s (Order js) = accepted (order_refusal s js.now) js.now
order_by s (Bar l d) = None
order_by s (Lift l d) = None
order_by s (Ask q) = None

-- what a call says of a pair: a bar that it is barred, a lift that it is not, if they name it and are accepted
abbrev pub bar_by : Shape → ℕ → ℕ → Call → Option Bool
bar_by s l d (Order js) = None
bar_by s l d (Bar lock holder) = cond (l == lock && d == holder) (accepted (pair_refusal s lock holder) true) None
bar_by s l d (Lift lock holder) = cond (l == lock && d == holder) (accepted (pair_refusal s lock holder) false) None
bar_by s l d (Ask q) = None

-- the order in force: the last accepted one
abbrev pub order_after : Shape → List Call → Option (List Join)
order_after s calls = last_said (order_by s) calls

-- a pair is barred when the last accepted bar or lift that named it was a bar
abbrev pub is_bar : Option Bool → Bool
is_bar None = false
is_bar (Some b) = b

abbrev pub bars_after : Shape → List Call → ℕ → ℕ → Bool
bars_after s calls = λ l d. is_bar (last_said (bar_by s l d) calls)

-- how one call changes the order in force
abbrev pub order_left : Shape → Option (List Join) → Call → Option (List Join)
order_left s o (Order js) = ordered (order_refusal s js.now) js.now o
order_left s o (Bar l d) = o
order_left s o (Lift l d) = o
order_left s o (Ask q) = o

-- and the bars
abbrev pub bars_left : Shape → (ℕ → ℕ → Bool) → Call → ℕ → ℕ → Bool
bars_left s bars (Order js) = bars
bars_left s bars (Bar l d) = left_by (pair_refusal s l d) (bar_put bars l d true) bars
bars_left s bars (Lift l d) = left_by (pair_refusal s l d) (bar_put bars l d false) bars
bars_left s bars (Ask q) = bars
