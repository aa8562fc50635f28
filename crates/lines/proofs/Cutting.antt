-- Lists that are split at the first of a mark, or where a run of bytes ends.
use Rattle.std.proofs.Common.{◌≡◌, ℕ, false, eqb, ne_eqb, ◌+◌, ◌-◌, ◌<◌, List, [], ◌∷◌, ◌++◌, length, take, drop, Option, MatchOption, sym, refl, ap, ◌∙◌, subst, arith, length-take-le, take-append-drop}
use Rattle.std.specs.List.{All, AllByRecursion, AllWithin, HoldsAt}
use Rattle.std.proofs.lemmas.List.Elements.{recursion_from_All, All-append, All-cons, All-from_get_or, All-weaker}
use Rattle.std.proofs.lemmas.List.{take_rest, drop_more, get_or-take}
use Rattle.lines.specs.Cuts.{Lacks, Cut}

-- a list whose first element, if any, does not have P
abbrev pub Ends : (ℕ → Type 0) → List ℕ → Type 0
Ends P [] = Unit {0}
Ends P (b ∷ bs) = P b → ⊥

pub record Same (x y s t : List ℕ) : Type 0 where
  pub front : x ≡ y
  pub back : s ≡ t

-- the longest front whose elements have P is one
pub one_cut : (P : ℕ → Type 0) (x y s t : List ℕ) → x ++ s ≡ y ++ t → AllByRecursion P x → AllByRecursion P y → Ends P s → Ends P t → Same x y s t
one_cut P [] [] s t e ax ay es et = record { front = refl; back = e }
one_cut P [] (b ∷ y) [] t e ax ay es et = cc
one_cut P [] (b ∷ y) (c ∷ s) t e ax ay es et = absurd (let z : b ≡ c = cc in es (subst P z ay.0))
one_cut P (a ∷ x) [] s [] e ax ay es et = cc
one_cut P (a ∷ x) [] s (c ∷ t) e ax ay es et = absurd (let z : a ≡ c = cc in et (subst P z ax.0))
one_cut P (a ∷ x) (b ∷ y) s t e ax ay es et =
    let h : a ≡ b = cc in
    let k : x ++ s ≡ y ++ t = cc in
    let r = one_cut P x y s t k ax.1 ay.1 es et in
    record { front = (let f = r.front in cc); back = r.back }

-- the first c is at one place
pub one_place : (c : ℕ) (x y s t : List ℕ) → x ++ (c ∷ s) ≡ y ++ (c ∷ t) → Lacks c x → Lacks c y → Same x y s t
one_place c x y s t e lx ly =
    let r = one_cut (λ b. b ≡ c → ⊥) x y (c ∷ s) (c ∷ t) e (recursion_from_All _ x lx) (recursion_from_All _ y ly) (λ f. f refl) (λ f. f refl) in
    record { front = r.front; back = ap (drop 1) r.back }

-- two lists that lack c, with another mark between
pub lacks_between : (c d : ℕ) (x y : List ℕ) → (d ≡ c → ⊥) → Lacks c x → Lacks c y → Lacks c (x ++ (d ∷ y))
lacks_between c d x y apart lx ly = All-append (λ b. b ≡ c → ⊥) x (d ∷ y) lx (All-cons (λ b. b ≡ c → ⊥) d y apart ly)

-- what lacks c passes no test for it
pub none_is : (c : ℕ) (bs : List ℕ) → Lacks c bs → All (λ b. eqb b c ≡ false) bs
none_is c bs l = All-weaker (λ b. b ≡ c → ⊥) (λ b. eqb b c ≡ false) (λ b h. ne_eqb b c h) bs l

-- what `position` says of the first c
abbrev pub IsPlace : ℕ → List ℕ → Option ℕ → Type 0
IsPlace c bs r =
    MatchOption r (AllWithin (λ b. b ≡ c → ⊥) bs 0 (length bs)) (λ i. (i < length bs) × HoldsAt (λ b. b ≡ c) bs i × AllWithin (λ b. b ≡ c → ⊥) bs 0 i)

pub cut_here : (c : ℕ) (bs : List ℕ) (i : ℕ) → (i < length bs) × HoldsAt (λ b. b ≡ c) bs i × AllWithin (λ b. b ≡ c → ⊥) bs 0 i → Cut c bs (take i bs) (take (length bs - (i + 1)) (drop (i + 1) bs))
cut_here c bs i h = simp take_rest (record {
  whole = sym (take-append-drop i bs) ∙ ap (λ t. take i bs ++ t) (drop_more bs i 0 h.0 ∙ ap (λ b. b ∷ drop (i + 1) bs) (h.1 0));
  first = All-from_get_or (λ b. b ≡ c → ⊥) (take i bs) 0 (λ k l. let m : k < i = omega (arith, length-take-le i bs (omega arith)) in rw (get_or-take i bs k 0 m) (h.2 k 0 (omega arith) m));
})

-- what lacks c is not split at c
pub lacks_cut : (bs x y : List ℕ) (c : ℕ) → Lacks c bs → bs ≡ x ++ (c ∷ y) → ⊥
lacks_cut bs x y c h e = at x (recursion_from_All _ (x ++ (c ∷ y)) (subst (Lacks c) e h)) where
  at : (x : List ℕ) → AllByRecursion (λ b. b ≡ c → ⊥) (x ++ (c ∷ y)) → ⊥
  at [] h = h.0 refl
  at (a ∷ x) h = at x h.1
