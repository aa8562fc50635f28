-- How one more call changes how a case stands.
use Rattle.std.proofs.Common.{◌≡◌, ℕ, ◌≤◌, Bool, true, cond, ◌&&◌, eqb, List, [], ◌∷◌, ◌++◌, Some, None, Option, sym, refl, ap, ◌∙◌, arith}
use mathlib.Core.Path.{fun_ext}
use Rattle.std.proofs.lemmas.Grind.{common_steps}
use Rattle.std.proofs.lemmas.Bool.Decides.{nat_tests}
use Rattle.book.specs.declared.refusal.Refusal.{Refusal}
use Rattle.book.specs.Layers.{kept_pair, bar_put}
use Rattle.aggregation.specs.declared.join.Join.{Join}
use Rattle.aggregation.specs.Nets.{Shape}
use Rattle.order.specs.Firsts.{or_else}
use Rattle.order.specs.Refusals.{order_refusal}
use Rattle.engine.specs.declared.call.Call.{Call}
use Rattle.engine.specs.declared.call.Call.TheVariants.{Order, Bar, Lift, Ask}
use Rattle.engine.specs.Cases.{ordered}
use Rattle.engine.specs.Questions.{left_by, pair_refusal}
use Rattle.engine.specs.Standing.{last_said, accepted, order_by, bar_by, is_bar, order_after, bars_after, order_left, bars_left}

-- what the last of some calls and one more says
said_more : {A : Type 0} (says : Call → Option A) (cs : List Call) (c : Call) → last_said says (cs ++ c ∷ []) ≡ or_else (says c) (last_said says cs)
unfolding last_said
said_more says [] c = grind (arith, common_steps)
said_more says (d ∷ cs) c = let e = said_more says cs c in grind (arith, common_steps)

-- an order call leaves the order that it sets, or the one before
order_said : (refusal : Option Refusal) (js : List Join) (before : Option (List Join)) → ordered refusal js before ≡ or_else (accepted refusal js) before
order_said refusal js before = grind (arith, common_steps)

-- a pair of a shape of at most 64 locks and 16 holders is one that bars are kept for
pair_kept : (s : Shape) → s.locks ≤ 64 → s.holders ≤ 16 → (l d : ℕ) → pair_refusal s l d ≡ None → kept_pair l d ≡ true
pair_kept s few fewer l d e = grind (arith, nat_tests, common_steps)

-- a bar or a lift of a pair for which bars are kept leaves what it says of each pair
bar_said : (refusal : Option Refusal) (lock holder : ℕ) (b : Bool) (said : ℕ → ℕ → Option Bool) (l d : ℕ) → (refusal ≡ None → kept_pair lock holder ≡ true) →
    left_by refusal (bar_put (λ l d. is_bar (said l d)) lock holder b) (λ l d. is_bar (said l d)) l d
    ≡ is_bar (or_else (cond (eqb l lock && eqb d holder) (accepted refusal b) None) (said l d))
bar_said None lock holder b said l d h = let k = h refl in grind (arith, common_steps)
bar_said (Some e) lock holder b said l d h = grind (arith, common_steps)

-- a case that stands as after some calls stands, one call later, as after one call more
order_turn : (s : Shape) (before : Option (List Join)) (c : Call) → order_left s before c ≡ or_else (order_by s c) before
order_turn s before (Order js) = order_said (order_refusal s js.now) js.now before
order_turn s before (Bar l d) = refl
order_turn s before (Lift l d) = refl
order_turn s before (Ask q) = refl

pub order_moves : (s : Shape) (cs : List Call) (c : Call) → order_left s (order_after s cs) c ≡ order_after s (cs ++ c ∷ [])
order_moves s cs c = order_turn s (order_after s cs) c ∙ sym (said_more (order_by s) cs c)

module _ (s : Shape) (few : s.locks ≤ 64) (fewer : s.holders ≤ 16) where
  bar_turn : (said : ℕ → ℕ → Option Bool) (c : Call) (l d : ℕ) → bars_left s (λ l d. is_bar (said l d)) c l d ≡ is_bar (or_else (bar_by s l d c) (said l d))
  bar_turn said (Order js) l d = refl
  bar_turn said (Bar lock holder) l d = bar_said (pair_refusal s lock holder) lock holder _ said l d (pair_kept s few fewer lock holder)
  bar_turn said (Lift lock holder) l d = bar_said (pair_refusal s lock holder) lock holder _ said l d (pair_kept s few fewer lock holder)
  bar_turn said (Ask q) l d = refl

  pub bars_move : (cs : List Call) (c : Call) → bars_left s (bars_after s cs) c ≡ bars_after s (cs ++ c ∷ [])
  bars_move cs c = fun_ext (λ l. fun_ext (λ d. bar_turn (λ l d. last_said (bar_by s l d) cs) c l d ∙ sym (ap is_bar (said_more (bar_by s l d) cs c))))
