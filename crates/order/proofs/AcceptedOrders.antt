-- What it takes for an order to be accepted.
use Rattle.std.proofs.Common.{◌≡◌, ℕ, ◌+◌, ◌<◌, Bool, true, false, cond, eqb, ◌↔◌, List, length, is_some, Some, None, Option, sym, refl, ◌∙◌}
use Rattle.std.proofs.lemmas.Option.{none-some}
use Rattle.std.proofs.lemmas.Bool.{eqb-true, both_ways}
use Rattle.aggregation.specs.declared.join.Join.{Join}
use Rattle.aggregation.specs.Sets.{all}
use Rattle.aggregation.specs.Nets.{Shape, has}
use Rattle.aggregation.specs.Orders.{wide, Accepted}
use Rattle.order.specs.Firsts.{first}
use Rattle.order.specs.Refusals.{bare, miscounted, fault, order_refusal}
use Rattle.order.proofs.FirstOf.{or_else_left, or_else_right, first_all, first_empty}
use Rattle.order.proofs.FitJoins.{no_fault}
use Rattle.order.proofs.PlanMade.{past_two}

-- a test that refuses nothing was passed
passed : {A : Type 0} (b : Bool) (a : A) → cond b None (Some a) ≡ None → b ≡ true
passed true a e = refl
passed false a e = absurd (none-some a (sym e))

-- what is not there is nothing
pub not_some : {A : Type 0} (o : Option A) → is_some o ≡ false → o ≡ None
not_some None e = refl
not_some (Some a) e = absurd (both_ways true e refl)

module _ (s : Shape) (js : List Join) where
  -- the three refusals one by one
  no_bare : order_refusal s js ≡ None → first (bare s) s.locks ≡ None
  no_bare e = or_else_left (first (bare s) s.locks) _ e

  counted : order_refusal s js ≡ None → length js + 1 ≡ s.tables
  counted e = eqb-true _ _ (passed (eqb (length js + 1) s.tables) _ (or_else_left (miscounted s js) _ (or_else_right (first (bare s) s.locks) _ e)))

  no_faults : order_refusal s js ≡ None → (i : ℕ) → i < length js → fault s js i ≡ None
  no_faults e i h = first_all (fault s js) (length js) i (or_else_right (miscounted s js) _ (or_else_right (first (bare s) s.locks) _ e)) h

  -- so what the theory asks of an order holds
  pub accepted : order_refusal s js ≡ None → Accepted s js
  accepted e = record {
    covered = λ l h. passed (has s all l) _ (first_all (bare s) s.locks l (no_bare e) h);
    counted = counted e;
    fit = λ i h. (no_fault s js i (no_faults e i h)).0;
  }

  pub narrow : order_refusal s js ≡ None → (i : ℕ) → i < length js → wide s js i ≡ false
  narrow e i h = (no_fault s js i (no_faults e i h)).1

  -- and the other way round
  accepting : Accepted s js × ((i : ℕ) → i < length js → wide s js i ≡ false) → order_refusal s js ≡ None
  accepting (ok, thin) =
      past_two s js (first_empty (bare s) s.locks (λ l h. rw (ok.covered l h) refl)) ok.counted
      ∙ first_empty (fault s js) (length js) (λ i h. rw (ok.fit i h, thin i h) refl)

  pub accepted_exactly : (order_refusal s js ≡ None) ↔ (Accepted s js × ((i : ℕ) → i < length js → wide s js i ≡ false))
  accepted_exactly = (λ e. (accepted e, narrow e), accepting)
