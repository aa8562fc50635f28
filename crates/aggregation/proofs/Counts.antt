-- Sums of numbers, and what is left when two of them go.
use Rattle.std.proofs.Common.{◌≡◌, ℕ, zero, suc, ◌+◌, ◌<◌, ◌≤◌, cond, eqb, ltb, ◌⊎◌, sym, refl, ap, ◌∙◌, subst, ap₂, inl, inr, arith}
use Rattle.std.proofs.lemmas.Bool.Decides.{nat_tests}
use Rattle.std.proofs.lemmas.Bool.{cases_eq, cases_lt, eq-eqb, ne_eqb, le-ltb}

-- the sum of h 0, .. , h (n - 1)
unfoldable pub sum : ℕ → (ℕ → ℕ) → ℕ
sum zero h = 0
sum (suc n) h = sum n h + h n

-- equal terms have equal sums
pub sum_same : (n : ℕ) (h g : ℕ → ℕ) → ((k : ℕ) → k < n → h k ≡ g k) → sum n h ≡ sum n g
unfolding sum
sum_same zero h g e = refl
sum_same (suc n) h g e = ap₂ (λ (a b : ℕ). a + b) (sum_same n h g (λ k l. e k (omega arith))) (e n (omega arith))

-- without the place l
abbrev pub less : ℕ → (ℕ → ℕ) → ℕ → ℕ
less l h k = cond (eqb k l) 0 (h k)

less_here : (l : ℕ) (h : ℕ → ℕ) → less l h l ≡ 0
less_here l h = rw (eq-eqb l l refl) refl

-- another place is as before
pub less_other : (l k : ℕ) (h : ℕ → ℕ) → (k ≡ l → ⊥) → less l h k ≡ h k
less_other l k h n = rw (ne_eqb k l n) refl

-- a sum without one of its terms, and that term
pub sum_less : (n l : ℕ) (h : ℕ → ℕ) → l < n → sum n (less l h) + h l ≡ sum n h
unfolding sum
sum_less zero l h p = absurd (omega arith)
sum_less (suc n) l h p = elim (cases_eq l n) [ inl e ↦ here e | inr d ↦ there (λ q. d (sym q)) (sum_less n l h (omega arith)) ]
  where
    here : l ≡ n → (sum n (less l h) + less l h n) + h l ≡ sum n h + h n
    here e =
        let a : sum n (less l h) ≡ sum n h = sum_same n (less l h) h (λ k q. less_other l k h (λ z. omega arith)) in
        let b : less l h n ≡ 0 = subst (λ m. less l h m ≡ 0) e (less_here l h) in
        let d : h l ≡ h n = ap h e in
        omega arith

    there : (n ≡ l → ⊥) → sum n (less l h) + h l ≡ sum n h → (sum n (less l h) + less l h n) + h l ≡ sum n h + h n
    there d e = let b : less l h n ≡ h n = less_other l n h d in omega arith

-- two places go, and a last one comes
pub sum_join : (n l r x : ℕ) (h g : ℕ → ℕ) → l < n → r < n → (l ≡ r → ⊥) → ((k : ℕ) → k < n → g k ≡ less l (less r h) k) → g n ≡ x → sum (suc n) g + (h l + h r) ≡ sum n h + x
unfolding sum
sum_join n l r x h g p q d e f =
    let a : sum n g ≡ sum n (less l (less r h)) = sum_same n g (less l (less r h)) e in
    let b : sum n (less l (less r h)) + less r h l ≡ sum n (less r h) = sum_less n l (less r h) p in
    let c : less r h l ≡ h l = less_other r l h d in
    let z : sum n (less r h) + h r ≡ sum n h = sum_less n r h q in
    omega arith

-- a sum that is 0 has no other terms
pub sum_none : (n : ℕ) (h : ℕ → ℕ) → sum n h ≡ 0 → (k : ℕ) → k < n → h k ≡ 0
unfolding sum
sum_none zero h e k p = absurd (omega arith)
sum_none (suc n) h e k p = elim (cases_eq k n) [ inl q ↦ subst (λ m. h m ≡ 0) (sym q) (last e) | inr d ↦ sum_none n h (first e) k (omega arith) ]
  where
    last : sum n h + h n ≡ 0 → h n ≡ 0
    last z = omega arith

    first : sum n h + h n ≡ 0 → sum n h ≡ 0
    first z = omega arith

-- a sum of zeros is 0
pub sum_zero : (n : ℕ) (h : ℕ → ℕ) → ((k : ℕ) → k < n → h k ≡ 0) → sum n h ≡ 0
unfolding sum
sum_zero zero h e = refl
sum_zero (suc n) h e = let a : sum n h ≡ 0 = sum_zero n h (λ k p. e k (omega arith)) in let b : h n ≡ 0 = e n (omega arith) in omega arith

-- the sum that counts one number
pub sum_one : (n u : ℕ) → sum n (λ k. cond (eqb u k) 1 0) ≡ cond (ltb u n) 1 0
unfolding sum
sum_one zero u = sym (ap (λ b. cond b 1 0) (le-ltb u 0 (omega arith)))
sum_one (suc n) u = ap (λ m. m + cond (eqb u n) 1 0) (sum_one n u) ∙ go (cases_eq u n) (cases_lt u n)
  where
    go : (u ≡ n) ⊎ (u ≡ n → ⊥) → (u < n) ⊎ (n ≤ u) → cond (ltb u n) 1 0 + cond (eqb u n) 1 0 ≡ cond (ltb u (suc n)) 1 0
    go x y = grind (arith, nat_tests)

-- all that is not the last place is 0
pub sum_last : (n : ℕ) (h c : ℕ → ℕ) → sum (suc n) c ≡ 1 → c n ≡ 1 → ((k : ℕ) → k < n → c k ≡ 0 → h k ≡ 0) → sum (suc n) h ≡ h n
unfolding sum
sum_last n h c e f g =
    let a : sum n c ≡ 0 = left e in
    let b : sum n h ≡ 0 = sum_zero n h (λ k p. g k p (sum_none n c a k p)) in
    omega arith
  where
    left : sum n c + c n ≡ 1 → sum n c ≡ 0
    left z = omega arith

-- n ones are n
pub sum_ones : (n : ℕ) → sum n (λ k. 1) ≡ n
unfolding sum
sum_ones zero = refl
sum_ones (suc n) = let e : sum n (λ k. 1) ≡ n = sum_ones n in omega arith
