-- Lists of numbers as sets, and sets as lists.
use Rattle.std.proofs.Common.{◌≡◌, ℕ, zero, suc, ◌+◌, ◌<◌, ◌≤◌, Bool, true, false, cond, ◌&&◌, ◌||◌, eqb, ltb, ◌⊎◌, List, [], ◌∷◌, ◌++◌, length, get_or, sym, refl, ap, ◌∙◌, ap₂, inl, inr, add-zero, add-one, arith}
use Rattle.std.proofs.Math.Bool.{or-false}
use Rattle.std.specs.List.{range_with_len}
use Rattle.std.proofs.lemmas.List.{length_push, get_or_push, get_or_append_left}
use Rattle.std.proofs.lemmas.Bool.{cases_eq, cases_lt, cases_Bool, ne_eqb, eqb-true, lt-ltb, le-ltb}
use Rattle.std.proofs.lemmas.Bool.Decides.{nat_tests}
use Rattle.aggregation.specs.Sets.{Set, all, among, size, listed, Rising, Below}
use Rattle.aggregation.specs.Rows.{Apart}
use Rattle.aggregation.proofs.Bools.{clash}
use Rattle.aggregation.proofs.Marks.{or_second}
use Rattle.aggregation.proofs.Rows.{first_in}

-- one more number, or none
by_mark : (b : Bool) (xs : List ℕ) (n : ℕ) (P : List ℕ → Type 0) → P xs → P (xs ++ n ∷ []) → P (cond b (xs ++ n ∷ []) xs)
by_mark true xs n P p q = q
by_mark false xs n P p q = p

-- the list of a set is as long as the set is large
pub listed_length : (n : ℕ) (s : Set) → length (listed n s) ≡ size n s
unfolding listed size
listed_length zero s = refl
listed_length (suc n) s = go (s n) (listed_length n s)
  where
    go : (b : Bool) → length (listed n s) ≡ size n s → length (cond b (listed n s ++ n ∷ []) (listed n s)) ≡ size n s + cond b 1 0
    go true h = length_push (listed n s) n ∙ ap (λ k. k + 1) h
    go false h = let g : size n s ≡ size n s + 0 = omega arith in h ∙ g

below_push : (xs : List ℕ) (m n : ℕ) → m < n → Below m xs → Below n (xs ++ m ∷ [])
below_push xs m n l h k p = elim (cases_lt k (length xs)) [ inl q ↦ there q | inr q ↦ here q ]
  where
    there : k < length xs → get_or (xs ++ m ∷ []) k 0 < n
    there q = rw (get_or_append_left xs (m ∷ []) 0 k q) (let z = h k q in omega arith)

    here : length xs ≤ k → get_or (xs ++ m ∷ []) k 0 < n
    here q = let e : length xs ≡ k = omega (arith, length_push xs m) in rw (get_or_push xs m 0 k e) l

below_weaker : (xs : List ℕ) (m n : ℕ) → m ≤ n → Below m xs → Below n xs
below_weaker xs m n l h k p = let z = h k p in omega arith

-- its numbers are below the bound
pub listed_below : (n : ℕ) (s : Set) → Below n (listed n s)
unfolding listed
listed_below zero s = λ k h. absurd (omega arith)
listed_below (suc n) s = by_mark (s n) (listed n s) n (Below (suc n)) (below_weaker (listed n s) n (suc n) (omega arith) (listed_below n s)) (below_push (listed n s) n (suc n) (omega arith) (listed_below n s))

rising_push : (xs : List ℕ) (n : ℕ) → Below n xs → Rising xs → Rising (xs ++ n ∷ [])
rising_push xs n b r k h = elim (cases_lt (k + 1) (length xs)) [ inl q ↦ there q | inr q ↦ here q ]
  where
    in' : k < length xs
    in' = omega (arith, length_push xs n)

    there : k + 1 < length xs → get_or (xs ++ n ∷ []) k 0 < get_or (xs ++ n ∷ []) (k + 1) 0
    there q = rw (get_or_append_left xs (n ∷ []) 0 k in', get_or_append_left xs (n ∷ []) 0 (k + 1) q) (r k q)

    here : length xs ≤ k + 1 → get_or (xs ++ n ∷ []) k 0 < get_or (xs ++ n ∷ []) (k + 1) 0
    here q = let e : length xs ≡ k + 1 = omega (arith, in') in rw (get_or_append_left xs (n ∷ []) 0 k in', get_or_push xs n 0 (k + 1) e) (b k in')

-- it rises
pub listed_rising : (n : ℕ) (s : Set) → Rising (listed n s)
unfolding listed
listed_rising zero s = λ k h. absurd (omega arith)
listed_rising (suc n) s = by_mark (s n) (listed n s) n Rising (listed_rising n s) (rising_push (listed n s) n (listed_below n s) (listed_rising n s))

-- a larger bound has no fewer numbers
pub size_up : (m n : ℕ) (s : Set) → m ≤ n → size m s ≤ size n s
unfolding size
size_up m zero s h = let e : m ≡ 0 = omega arith in rw e (omega arith)
size_up m (suc n) s h = elim (cases_eq m (suc n)) [ inl e ↦ same e | inr d ↦ less (size_up m n s (omega arith)) ]
  where
    same : m ≡ suc n → size m s ≤ size (suc n) s
    same e = rw e (omega arith)

    less : size m s ≤ size n s → size m s ≤ size n s + cond (s n) 1 0
    less g = omega arith

-- a part of a set has no more numbers
pub size_part : (n : ℕ) (s t : Set) → ((l : ℕ) → s l ≡ true → t l ≡ true) → size n s ≤ size n t
unfolding size
size_part zero s t h = omega arith
size_part (suc n) s t h = go (s n) (t n) (h n) (size_part n s t h)
  where
    go : (a b : Bool) → (a ≡ true → b ≡ true) → size n s ≤ size n t → size n s + cond a 1 0 ≤ size n t + cond b 1 0
    go a b p q = grind arith

-- the rest of a rising list rises
pub rises_rest : (x : ℕ) (xs : List ℕ) → Rising (x ∷ xs) → Rising xs
rises_rest x xs r k h =
    let p : (k + 1) + 1 < suc (length xs) = omega arith in
    let q = r (k + 1) p in
    let e : (k + 1) + 1 ≡ suc (k + 1) = add-one (k + 1) in
    let a : get_or (x ∷ xs) (k + 1) 0 ≡ get_or xs k 0 = ap (λ n. get_or (x ∷ xs) n 0) (add-one k) in
    let b : get_or (x ∷ xs) ((k + 1) + 1) 0 ≡ get_or xs (k + 1) 0 = ap (λ n. get_or (x ∷ xs) n 0) e in
    omega arith

-- its first is below the others
pub rises_above : (x : ℕ) (xs : List ℕ) (l : ℕ) → Rising (x ∷ xs) → among xs l ≡ true → x < l
unfolding among
rises_above x [] l r h = clash false h refl
rises_above x (y ∷ ys) l r h = go (cases_eq l y) (rises_above y ys l (rises_rest x (y ∷ ys) r))
  where
    first : x < y
    first = r 0 (omega arith)

    go : (l ≡ y) ⊎ (l ≡ y → ⊥) → (among ys l ≡ true → y < l) → x < l
    go (inl e) rec = omega (arith, first)
    go (inr e) rec = let q = rec (or_second (eqb l y) (among ys l) h (ne_eqb l y e)) in omega (arith, first)

-- a rising list has no number twice
pub rises_apart : (xs : List ℕ) → Rising xs → Apart xs
rises_apart [] r = tt
rises_apart (x ∷ xs) r = (go (cases_Bool (among xs x)), rises_apart xs (rises_rest x xs r))
  where
    go : (among xs x ≡ true) ⊎ (among xs x ≡ false) → among xs x ≡ false
    go (inl e) = let q = rises_above x xs x r e in absurd (omega arith)
    go (inr e) = e

-- the members of a list of two parts
pub among_append : (xs ys : List ℕ) (l : ℕ) → among (xs ++ ys) l ≡ (among xs l || among ys l)
unfolding among
among_append [] ys l = refl
among_append (x ∷ xs) ys l = ap (λ (b : Bool). eqb l x || b) (among_append xs ys l) ∙ shift (eqb l x) (among xs l) (among ys l)
  where
    shift : (a b c : Bool) → (a || (b || c)) ≡ ((a || b) || c)
    shift a b c = grind arith

-- the list of a set has the numbers of the set that are below the bound
pub among_listed : (n : ℕ) (s : Set) (l : ℕ) → among (listed n s) l ≡ (ltb l n && s l)
unfolding listed among
among_listed zero s l = sym (none (ltb l 0) (s l) (le-ltb l 0 (omega arith)))
  where
    none : (a b : Bool) → a ≡ false → (a && b) ≡ false
    none a b e = grind arith
among_listed (suc n) s l =
    step (s n) ∙ ap (λ (b : Bool). b || (s n && eqb l n)) (among_listed n s l)
    ∙ split (ltb l n) (eqb l n) (ltb l (suc n)) (s n) (s l) (ltb_more l n) (λ e. ap s (eqb-true l n e))
  where
    step : (b : Bool) → among (cond b (listed n s ++ n ∷ []) (listed n s)) l ≡ (among (listed n s) l || (b && eqb l n))
    step true = among_append (listed n s) (n ∷ []) l ∙ ap (λ (b : Bool). among (listed n s) l || b) (or-false (eqb l n))
    step false = sym (or-false (among (listed n s) l))

    ltb_more : (l n : ℕ) → ltb l (suc n) ≡ (ltb l n || eqb l n)
    ltb_more l n = grind (arith, nat_tests)

    split : (a b c d e : Bool) → c ≡ (a || b) → (b ≡ true → e ≡ d) → ((a && e) || (d && b)) ≡ (c && e)
    split a b c d e p q = grind arith

-- below the bound, exactly those of the set
pub listed_in : (n : ℕ) (s : Set) (l : ℕ) → l < n → among (listed n s) l ≡ s l
listed_in n s l h = among_listed n s l ∙ ap (λ (b : Bool). b && s l) (lt-ltb l n h)

-- a listed number is below the bound
pub listed_within : (n : ℕ) (s : Set) (l : ℕ) → among (listed n s) l ≡ true → l < n
listed_within n s l h = let e : (ltb l n && s l) ≡ true = sym (among_listed n s l) ∙ h in grind (arith, nat_tests)

-- the list of a set has no number twice
pub listed_apart : (n : ℕ) (s : Set) → Apart (listed n s)
listed_apart n s = rises_apart (listed n s) (listed_rising n s)

-- sets that agree below the bound have one list
pub listed_same : (n : ℕ) (s t : Set) → ((l : ℕ) → l < n → s l ≡ t l) → listed n s ≡ listed n t
unfolding listed
listed_same zero s t h = refl
listed_same (suc n) s t h = ap₂ (λ (b : Bool) (xs : List ℕ). cond b (xs ++ n ∷ []) xs) (h n (omega arith)) (listed_same n s t (λ l p. h l (omega arith)))

empty : (l : ℕ) → among [] l ≡ false
unfolding among
empty l = refl

-- a number of a list is its first, or one of the rest
member : (l x : ℕ) (xs : List ℕ) → among (x ∷ xs) l ≡ true → (l ≡ x) ⊎ (among xs l ≡ true)
unfolding among
member l x xs h = elim (cases_eq l x) [ inl e ↦ inl e | inr e ↦ inr (or_second (eqb l x) (among xs l) h (ne_eqb l x e)) ]

skip : (l x : ℕ) (xs : List ℕ) → (l ≡ x → ⊥) → among (x ∷ xs) l ≡ among xs l
unfolding among
skip l x xs e = ap (λ (b : Bool). b || among xs l) (ne_eqb l x e)

-- two rising lists with the same numbers are one
pub rising_unique : (xs ys : List ℕ) → Rising xs → Rising ys → ((l : ℕ) → among xs l ≡ among ys l) → xs ≡ ys
rising_unique [] [] r q h = refl
rising_unique [] (y ∷ ys) r q h = clash (among (y ∷ ys) y) (first_in y ys) (sym (h y) ∙ empty y)
rising_unique (x ∷ xs) [] r q h = clash (among (x ∷ xs) x) (first_in x xs) (h x ∙ empty x)
rising_unique (x ∷ xs) (y ∷ ys) r q h = ap₂ (λ (a : ℕ) (bs : List ℕ). a ∷ bs) same (rising_unique xs ys (rises_rest x xs r) (rises_rest y ys q) rest)
  where
    same : x ≡ y
    same = meet (member x y ys (sym (h x) ∙ first_in x xs)) (member y x xs (h y ∙ first_in y ys))
      where
        meet : (x ≡ y) ⊎ (among ys x ≡ true) → (y ≡ x) ⊎ (among xs y ≡ true) → x ≡ y
        meet (inl e) z = e
        meet (inr e) (inl f) = sym f
        meet (inr e) (inr f) = let a = rises_above y ys x q e in let b = rises_above x xs y r f in absurd (omega arith)

    rest : (l : ℕ) → among xs l ≡ among ys l
    rest l = go (cases_eq l x)
      where
        go : (l ≡ x) ⊎ (l ≡ x → ⊥) → among xs l ≡ among ys l
        go (inl e) = ap (among xs) e ∙ (rises_apart (x ∷ xs) r).0 ∙ sym (ap (among ys) (e ∙ same) ∙ (rises_apart (y ∷ ys) q).0)
        go (inr e) = sym (skip l x xs e) ∙ h l ∙ skip l y ys (λ z. e (z ∙ sym same))

-- a rising list of numbers below the bound is the list of its numbers
pub listed_again : (n : ℕ) (xs : List ℕ) → Rising xs → ((l : ℕ) → among xs l ≡ true → l < n) → listed n (among xs) ≡ xs
listed_again n xs r b = rising_unique (listed n (among xs)) xs (listed_rising n (among xs)) r (λ l. go l (cases_Bool (among xs l)))
  where
    go : (l : ℕ) → (among xs l ≡ true) ⊎ (among xs l ≡ false) → among (listed n (among xs)) l ≡ among xs l
    go l (inl e) = listed_in n (among xs) l (b l e)
    go l (inr e) = among_listed n (among xs) l ∙ ap (λ (c : Bool). ltb l n && c) e ∙ off (ltb l n) ∙ sym e
      where
        off : (a : Bool) → (a && false) ≡ false
        off a = grind arith

counting_push : (a n : ℕ) → range_with_len a (suc n) ≡ range_with_len a n ++ (a + n) ∷ []
counting_push a zero = ap (λ (x : ℕ). x ∷ []) (sym (add-zero a))
counting_push a (suc n) = ap (λ (xs : List ℕ). a ∷ xs) (counting_push (a + 1) n ∙ ap (λ (x : ℕ). range_with_len (a + 1) n ++ x ∷ []) (shift a n))
  where
    shift : (a n : ℕ) → (a + 1) + n ≡ a + suc n
    shift a n = omega arith

-- one number more
pub counting_more : (n : ℕ) → range_with_len 0 (suc n) ≡ range_with_len 0 n ++ n ∷ []
counting_more n = counting_push 0 n ∙ ap (λ (x : ℕ). range_with_len 0 n ++ x ∷ []) (zero_plus n)
  where
    zero_plus : (n : ℕ) → 0 + n ≡ n
    zero_plus n = omega arith

-- the numbers 0, .. , n - 1
pub listed_all : (n : ℕ) → listed n all ≡ range_with_len 0 n
unfolding listed
listed_all zero = refl
listed_all (suc n) = ap (λ (xs : List ℕ). xs ++ n ∷ []) (listed_all n) ∙ sym (counting_more n)

-- the list of no numbers
pub listed_empty : (n : ℕ) (s : Set) → ((l : ℕ) → l < n → s l ≡ false) → listed n s ≡ []
unfolding listed
listed_empty zero s h = refl
listed_empty (suc n) s h = ap (λ (b : Bool). cond b (listed n s ++ n ∷ []) (listed n s)) (h n (omega arith)) ∙ listed_empty n s (λ l p. h l (omega arith))
