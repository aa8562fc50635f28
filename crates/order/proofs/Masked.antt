-- Arrays of marks, and the sets that they stand for.
use Rattle.std.proofs.Common.{◌≡◌, ℕ, ◌+◌, ◌<◌, ◌≤◌, Bool, true, false, cond, ◌&&◌, ◌||◌, eqb, List, [], ◌∷◌, length, get_or, take, set, replicate, sym, refl, ap, ◌∙◌, subst, inl, inr, add-one, arith, get_or-set_other, get_or-set_same}
use mathlib.Core.Path.{fun_ext}
use Rattle.std.proofs.lemmas.List.{get_or_past, take_more, get_or-replicate, length-replicate}
use Rattle.std.proofs.lemmas.Bool.{cases_eq, cases_lt, eq-eqb, ne_eqb}
use Rattle.aggregation.proofs.Listed.{among_append}
use Rattle.aggregation.specs.Sets.{Set, among, size}

-- a row of falses is as long as it was made
short : (n k : ℕ) → n ≤ k → length (replicate n false) ≤ k
short n k h = rw length-replicate h

-- nothing is marked in a row of falses
pub none_marked : (n : ℕ) → ◌≡◌ {A = Set} (λ k. get_or (replicate n false) k false) (λ k. false)
none_marked n = fun_ext (λ k. elim (cases_lt k n) [ inl h ↦ get_or-replicate n k false false h | inr h ↦ get_or_past (replicate n false) k false (short n k h) ])

-- a row that is filled
pub filled_all : (f : Set) (xs : List Bool) (n : ℕ) → length xs ≤ n → ((k : ℕ) → k < n → get_or xs k false ≡ f k) → ((k : ℕ) → n ≤ k → f k ≡ false)
    → (λ (k : ℕ). get_or xs k false) ≡ f
filled_all f xs n h before past = fun_ext (λ k. elim (cases_lt k n) [ inl l ↦ before k l | inr l ↦ get_or_past xs k false (omega arith) ∙ sym (past k l) ])

-- one number alone, and a number more
among_one : (x k : ℕ) → among (x ∷ []) k ≡ eqb k x
unfolding among
among_one x k = go (eqb k x)
  where
    go : (b : Bool) → (b || false) ≡ b
    go true = refl
    go false = refl

-- the marks of a list's first numbers, with the next one marked
pub among_more : (ls : List ℕ) (xs : List Bool) (i : ℕ) → i < length ls → get_or ls i 0 < length xs
    → ((k : ℕ) → get_or xs k false ≡ among (take i ls) k) → (k : ℕ) → get_or (set xs (get_or ls i 0) true) k false ≡ among (take (i + 1) ls) k
among_more ls xs i h r before k = elim (cases_eq k (get_or ls i 0)) [ inl p ↦ here p | inr n ↦ there n ]
  where
    grown : among (take (i + 1) ls) k ≡ (among (take i ls) k || eqb k (get_or ls i 0))
    grown = ap (λ ys. among ys k) (take_more ls i 0 h) ∙ among_append (take i ls) (get_or ls i 0 ∷ []) k ∙ ap (λ b. among (take i ls) k || b) (among_one (get_or ls i 0) k)

    here : k ≡ get_or ls i 0 → get_or (set xs (get_or ls i 0) true) k false ≡ among (take (i + 1) ls) k
    here p = subst (λ n. get_or (set xs (get_or ls i 0) true) n false ≡ true) (sym p) (get_or-set_same xs (get_or ls i 0) true false r) ∙ sym (grown ∙ let q = eq-eqb k (get_or ls i 0) p in grind arith)

    there : (k ≡ get_or ls i 0 → ⊥) → get_or (set xs (get_or ls i 0) true) k false ≡ among (take (i + 1) ls) k
    there n = get_or-set_other xs (get_or ls i 0) k true false n ∙ before k ∙ sym (grown ∙ let q = ne_eqb k (get_or ls i 0) n in grind arith)

-- how many there are below one more number
pub size_more : (n : ℕ) (s : Set) → size (n + 1) s ≡ size n s + cond (s n) 1 0
unfolding size
size_more n s = rw add-one refl

-- beyond both rows nothing is marked
pub past_or : (xs ys : List Bool) (k : ℕ) → length xs ≤ k → length ys ≤ k → (get_or xs k false || get_or ys k false) ≡ false
past_or xs ys k h l = rw (get_or_past xs k false h, get_or_past ys k false l)

pub past_and : (xs ys : List Bool) (k : ℕ) → length xs ≤ k → length ys ≤ k → (get_or xs k false && get_or ys k false) ≡ false
past_and xs ys k h l = rw (get_or_past xs k false h)

-- a row of falses with one mark
pub one_marked : (n k : ℕ) → k < n → ◌≡◌ {A = Set} (λ u. get_or (set (replicate n false) k true) u false) (λ u. eqb u k)
one_marked n k h = fun_ext (λ u. elim (cases_eq u k) [ inl p ↦ here u p | inr d ↦ get_or-set_other (replicate n false) k u true false d ∙ ap (λ (f : Set). f u) (none_marked n) ∙ sym (ne_eqb u k d) ])
  where
    wide : k < length (replicate n false)
    wide = rw length-replicate h

    here : (u : ℕ) → u ≡ k → get_or (set (replicate n false) k true) u false ≡ eqb u k
    here u p = subst (λ v. get_or (set (replicate n false) k true) v false ≡ true) (sym p) (get_or-set_same (replicate n false) k true false wide) ∙ sym (eq-eqb u k p)
