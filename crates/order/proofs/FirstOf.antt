-- The first that is there, and the nodes that joins use.
use Rattle.std.proofs.Common.{◌≡◌, ℕ, zero, suc, ◌+◌, ◌<◌, ◌≤◌, true, ◌||◌, eqb, List, Some, None, Option, sym, refl, ap, ◌∙◌, subst, inl, inr, add-one, arith}
use Rattle.std.proofs.lemmas.Option.{none-some}
use Rattle.std.proofs.lemmas.Bool.{cases_eq, eq-eqb, or_right}
use Rattle.aggregation.specs.declared.join.Join.{Join}
use Rattle.aggregation.specs.Orders.{join_at, used}
use Rattle.order.specs.Firsts.{first, or_else}

-- nothing is before the first place; one more place; what was found stays found
pub first_none : {A : Type 0} (g : ℕ → Option A) → first g 0 ≡ None
unfolding first
first_none g = refl

pub first_more : {A : Type 0} (g : ℕ → Option A) (n : ℕ) → first g n ≡ None → first g (n + 1) ≡ g n
unfolding first
first_more g n h = rw (add-one, h) refl

first_stays : {A : Type 0} (g : ℕ → Option A) (n m : ℕ) (a : A) → n ≤ m → first g n ≡ Some a → first g m ≡ Some a
unfolding first
first_stays g n zero a h e = let z : n ≡ 0 = omega arith in subst (λ k. first g k ≡ Some a) z e
first_stays {A} g n (suc m) a h e = elim (cases_eq n (suc m)) [ inl p ↦ subst (λ k. first g k ≡ Some a) p e | inr d ↦ ap (λ (o : Option A). or_else o (g m)) (first_stays g n m a (omega arith) e) ]

-- the place at which a search ends
pub first_found : {A : Type 0} (g : ℕ → Option A) (n m : ℕ) (a : A) → n < m → first g n ≡ None → g n ≡ Some a → first g m ≡ Some a
first_found g n m a h e p = first_stays g (n + 1) m a (omega arith) (first_more g n e ∙ p)

-- where neither is there
pub or_else_left : {A : Type 0} (a b : Option A) → or_else a b ≡ None → a ≡ None
or_else_left None b z = refl
or_else_left (Some a) b z = z

pub or_else_right : {A : Type 0} (a b : Option A) → or_else a b ≡ None → b ≡ None
or_else_right None b z = z
or_else_right (Some a) b z = absurd (none-some a (sym z))

-- where none is there
pub first_all : {A : Type 0} (g : ℕ → Option A) (n i : ℕ) → first g n ≡ None → i < n → g i ≡ None
unfolding first
first_all g zero i e h = absurd (omega arith)
first_all g (suc n) i e h = elim (cases_eq i n) [ inl p ↦ subst (λ m. g m ≡ None) (sym p) (or_else_right (first g n) (g n) e) | inr d ↦ first_all g n i (or_else_left (first g n) (g n) e) (omega arith) ]

-- none is there where no part is
pub first_empty : {A : Type 0} (g : ℕ → Option A) (n : ℕ) → ((i : ℕ) → i < n → g i ≡ None) → first g n ≡ None
unfolding first
first_empty g zero h = refl
first_empty g (suc n) h = rw (first_empty g n (λ i l. h i (omega arith)), h n (omega arith)) refl

-- what is used stays used, and a join uses its two sides
used_more : (js : List Join) (i k : ℕ) → used js (i + 1) k ≡ ((eqb k (join_at js i).left || eqb k (join_at js i).right) || used js i k)
unfolding used
used_more js i k = rw add-one refl

pub used_stays : (js : List Join) (i m k : ℕ) → i ≤ m → used js i k ≡ true → used js m k ≡ true
unfolding used
used_stays js i zero k h e = let z : i ≡ 0 = omega arith in subst (λ n. used js n k ≡ true) z e
used_stays js i (suc m) k h e = elim (cases_eq i (suc m)) [ inl p ↦ subst (λ n. used js n k ≡ true) p e | inr d ↦ or_right _ _ (used_stays js i m k (omega arith) e) ]

pub used_left : (js : List Join) (i k : ℕ) → k ≡ (join_at js i).left → used js (i + 1) k ≡ true
used_left js i k e = let q = eq-eqb k (join_at js i).left e in used_more js i k ∙ grind arith

pub used_right : (js : List Join) (i k : ℕ) → k ≡ (join_at js i).right → used js (i + 1) k ≡ true
used_right js i k e = let q = eq-eqb k (join_at js i).right e in used_more js i k ∙ grind arith
