-- Totals and sheet numbers of a book with bars, over the permitted assignments.
use Rattle.std.proofs.Common.{◌≡◌, ℕ, ◌^◌, ◌<◌, Bool, true, false, cond, not, ◌&&◌, List, [], ◌∷◌, map, is_some, Some, None, filter, Option, sym, refl, ap, ◌∙◌, subst, ap₂, inl, inr, arith}
use Rattle.std.specs.List.{AllByRecursion}
use Rattle.std.proofs.ByRecursion.{All-from_get_or, all_kept_by, All-weaker}
use Rattle.std.proofs.lemmas.Bool.{cases_Bool, and_parts}
use Rattle.weighing.specs.Charges.{Charge}
use Rattle.weighing.specs.Semirings.{either_over, Better}
use Rattle.weighing.specs.Laws.{Algebra, Lawful}
use Rattle.book.specs.Books.{Meaning, Ranged}
use Rattle.book.specs.Layers.{barred}
use Rattle.aggregation.specs.declared.join.Join.{Join}
use Rattle.aggregation.specs.Sets.{among}
use Rattle.aggregation.specs.Rows.{rows}
use Rattle.aggregation.specs.Nets.{Sound}
use Rattle.aggregation.specs.Orders.{Accepted, total}
use Rattle.aggregation.specs.Listing.{Assignment, has_row, has_holder, permitted, Tests}
use Rattle.aggregation.proofs.Bools.{clash}
use Rattle.aggregation.proofs.RowSums.{either_kept}
use Rattle.aggregation.proofs.Listing.{is_assignment, listed_long, listed_at}
use Rattle.aggregation.proofs.Marginals.{order_total, table_marginal, lock_marginal}
use Rattle.aggregation.proofs.Permitted.{none_exactly, best_listed}
use Rattle.order.specs.Shapes.{shape_of}
use Rattle.permits.specs.Networks.{weight_of, net_of}
use Rattle.permits.specs.Permits.{permits, uses_bar, allowed, every, weight, either_of}
use Rattle.permits.specs.Claims.{sheet_number, lock_number}
use Rattle.permits.proofs.Bars.{weigh_barred}

-- a book's shape is sound
pub sound_shape : (m : Meaning) → Ranged m → Sound (shape_of m)
sound_shape m r = record { some_holder = r.some_holder; below = r.below; rising = r.rising }

-- every listed assignment is one
pub every_is : (m : Meaning) → Ranged m → AllByRecursion (Assignment m.holders m.locks) (every m)
every_is m r =
    All-from_get_or (Assignment m.holders m.locks) (every m) []
    (λ i h. let k : i < m.holders ^ m.locks = subst (λ n. i < n) (listed_long m.holders m.locks) h in
    subst (Assignment m.holders m.locks) (sym (listed_at m.holders m.locks i k)) (is_assignment m.holders m.locks i r.some_holder k))

-- two functions that agree on what a list has give one list
pub map_same : {X Y : Type 0} (Q : X → Type 0) (f g : X → Y) → ((x : X) → Q x → f x ≡ g x) → (xs : List X) → AllByRecursion Q xs → map f xs ≡ map g xs
map_same Q f g same [] q = refl
map_same Q f g same (x ∷ xs) q = ap₂ ◌∷◌ (same x q.0) (map_same Q f g same xs q.1)

-- a filter that nothing passes gives the empty list
none_kept : {X : Type 0} (test : X → Bool) (xs : List X) → AllByRecursion (λ x. test x ≡ false) xs → filter test xs ≡ []
none_kept test [] q = refl
none_kept test (x ∷ xs) q = ap (λ b. cond b (x ∷ filter test xs) (filter test xs)) q.0 ∙ none_kept test xs q.1

-- the test of a row tells what weighs none
pub row_tests : {W P : Type 0} (a : Algebra W P) → Lawful a → (m : Meaning) → Tests a.ops (net_of a m) (permits m)
row_tests a laws m = record { absent = λ t row e. gone (m.charge t row) e; present = λ t row e z. there (m.charge t row) e z }
  where
    gone : (o : Option Charge) → is_some o ≡ false → weight_of a o ≡ a.ops.none
    gone None e = refl
    gone (Some c) e = clash true refl e

    there : (o : Option Charge) → is_some o ≡ true → weight_of a o ≡ a.ops.none → ⊥
    there None e z = clash false e refl
    there (Some c) e z = laws.some c z

module _ {W P : Type 0} (a : Algebra W P) (laws : Lawful a) (m : Meaning) (r : Ranged m) (bars : ℕ → ℕ → Bool) (js : List Join) (order : Accepted (shape_of m) js) where
  one_table : 0 < m.tables
  one_table = omega (arith, order.counted)

  by_tests : (p u : Bool) (w : W) → (p ≡ false → w ≡ a.ops.none) → cond u a.ops.none w ≡ cond (p && not u) w a.ops.none
  by_tests p u w z = grind arith

  -- in the barred book a permitted assignment weighs what it weighs in the book, and any other none
  pub weigh_allowed : (x : List ℕ) → Assignment m.holders m.locks x → weight a (barred bars m) x ≡ cond (allowed m bars x) (weight a m x) a.ops.none
  weigh_allowed x asg =
      weigh_barred a laws.semiring bars m (sound_shape m r) order.covered x asg
      ∙ by_tests (permitted (shape_of m) (permits m) m.tables x) (uses_bar bars m.locks x) (weight a m x)
      (none_exactly a.ops laws.semiring (net_of a m) (permits m) (row_tests a laws m) laws.no_cancel one_table x).1

  -- the either of what some assignments weigh in the barred book
  either_barred : (some : List (List ℕ)) → AllByRecursion (Assignment m.holders m.locks) some →
      either_over a.ops (map (weight a (barred bars m)) some) ≡ either_of a m bars some
  either_barred some are =
      ap (either_over a.ops) (map_same (Assignment m.holders m.locks) (weight a (barred bars m)) (λ x. cond (allowed m bars x) (weight a m x) a.ops.none) weigh_allowed some are)
      ∙ sym (either_kept a.ops laws.semiring (allowed m bars) (weight a m) some)

  pub total_permitted : total a.ops (net_of a (barred bars m)) js ≡ either_of a m bars (every m)
  total_permitted = order_total a.ops laws.semiring (net_of a (barred bars m)) (sound_shape m r) js order ∙ either_barred (every m) (every_is m r)

  pub sheet_permitted : (t row : ℕ) → t < m.tables → row < rows m.holders (m.scope t) →
      sheet_number a (barred bars m) t row ≡ either_of a m bars (filter (has_row (shape_of m) t row) (every m))
  sheet_permitted t row h k =
      table_marginal a.ops laws.semiring (net_of a (barred bars m)) (sound_shape m r) order.covered t row h k
      ∙ either_barred (filter (has_row (shape_of m) t row) (every m)) (all_kept_by (has_row (shape_of m) t row) (Assignment m.holders m.locks) (every m) (every_is m r))

  pub lock_permitted : (t l d : ℕ) → t < m.tables → among (m.scope t) l ≡ true →
      lock_number a (barred bars m) t l d ≡ either_of a m bars (filter (has_holder l d) (every m))
  lock_permitted t l d h k =
      lock_marginal a.ops laws.semiring (net_of a (barred bars m)) (sound_shape m r) order.covered t l d h k
      ∙ either_barred (filter (has_holder l d) (every m)) (all_kept_by (has_holder l d) (Assignment m.holders m.locks) (every m) (every_is m r))

  module _ (x : List ℕ) (asg : Assignment m.holders m.locks x) where
    pub weighs_something : (weight a (barred bars m) x ≡ a.ops.none → ⊥) → (allowed m bars x ≡ true) × (weight a (barred bars m) x ≡ weight a m x)
    weighs_something h = go (allowed m bars x) refl (weigh_allowed x asg)
      where
        go : (b : Bool) → allowed m bars x ≡ b → weight a (barred bars m) x ≡ cond b (weight a m x) a.ops.none → (allowed m bars x ≡ true) × (weight a (barred bars m) x ≡ weight a m x)
        go true e z = (e, z)
        go false e z = absurd (h z)

    pub allowed_weighs : allowed m bars x ≡ true → weight a m x ≡ a.ops.none → ⊥
    allowed_weighs e z =
        clash (permitted (shape_of m) (permits m) m.tables x)
        (and_parts (permitted (shape_of m) (permits m) m.tables x) (not (uses_bar bars m.locks x)) e).0
        ((none_exactly a.ops laws.semiring (net_of a m) (permits m) (row_tests a laws m) laws.no_cancel one_table x).0 z)

    pub allowed_same : allowed m bars x ≡ true → weight a (barred bars m) x ≡ weight a m x
    allowed_same e = weigh_allowed x asg ∙ ap (λ b. cond b (weight a m x) a.ops.none) e

    -- no permitted assignment is better than the total
    pub none_better : allowed m bars x ≡ true → Better a.ops (weight a m x) (total a.ops (net_of a (barred bars m)) js) → ⊥
    none_better e better =
        (best_listed a.ops laws.semiring laws.selects (net_of a (barred bars m)) (sound_shape m r) (permits (barred bars m)) (row_tests a laws (barred bars m))
        (total a.ops (net_of a (barred bars m)) js) (order_total a.ops laws.semiring (net_of a (barred bars m)) (sound_shape m r) js order)).1
        x asg there (subst (λ w. Better a.ops w (total a.ops (net_of a (barred bars m)) js)) (sym (allowed_same e)) better)
      where
        there : permitted (shape_of m) (permits (barred bars m)) m.tables x ≡ true
        there = elim (cases_Bool (permitted (shape_of m) (permits (barred bars m)) m.tables x)) [
          | inl z ↦ z
          | inr z ↦ absurd (allowed_weighs e (sym (allowed_same e)
              ∙ (none_exactly a.ops laws.semiring (net_of a (barred bars m)) (permits (barred bars m)) (row_tests a laws (barred bars m)) laws.no_cancel one_table x).1 z))
        ]

  -- the total is none exactly when no assignment is permitted
  pub none_permitted : total a.ops (net_of a (barred bars m)) js ≡ a.ops.none → (x : List ℕ) → Assignment m.holders m.locks x → allowed m bars x ≡ false
  none_permitted e x asg = elim (cases_Bool (allowed m bars x)) [
    | inl z ↦ absurd (none_better x asg z (record {
      differ = λ q. allowed_weighs x asg z (q ∙ e);
      wins = ap (λ w. a.ops.either (weight a m x) w) e ∙ laws.semiring.either_comm (weight a m x) a.ops.none ∙ laws.semiring.either_none (weight a m x);
    }))
    | inr z ↦ z
  ]

  pub permitted_none : ((x : List ℕ) → Assignment m.holders m.locks x → allowed m bars x ≡ false) → total a.ops (net_of a (barred bars m)) js ≡ a.ops.none
  unfolding either_over
  permitted_none h =
      total_permitted
      ∙ ap (λ xs. either_over a.ops (map (weight a m) xs)) (none_kept (allowed m bars) (every m) (All-weaker (Assignment m.holders m.locks) (λ x. allowed m bars x ≡ false) h (every m) (every_is m r)))
