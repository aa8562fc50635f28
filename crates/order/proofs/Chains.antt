-- What chains and calls in turn come to.
use Rattle.std.proofs.Common.{◌≡◌, ℕ, zero, suc, ◌+◌, ◌<◌, ◌≤◌, Bool, true, false, cond, ◌||◌, eqb, List, [], ◌∷◌, length, get_or, take, sym, refl, ap, ◌∙◌, add-one, arith, inl, inr, subst}
use Rattle.std.specs.Array.{IsFromFnResultFrom}
use Rattle.std.specs.List.{count_by, list_any}
use denote.Param.Members.{Mut, Called}
use Rattle.std.proofs.lemmas.Bool.{cases_eq}
use Rattle.std.proofs.lemmas.List.{take_more}
use Rattle.std.proofs.lemmas.List.Folds.{list_any-append}
use Rattle.std.proofs.lemmas.List.Sums.{count_by_more_yes, count_by_more_no}
use Rattle.aggregation.specs.declared.join.Join.{Join}
use Rattle.aggregation.specs.Sets.{size}
use Rattle.aggregation.specs.Orders.{join_at, used}

either : (a b c : Bool) → a ≡ c → (a || (b || false)) ≡ (b || c)
either true true c e = refl
either true false c e = e
either false true c e = refl
either false false c e = e

-- whether one of the first joins uses a node
pub used_any : (js : List Join) (i k : ℕ) → i ≤ length js → list_any (λ j. eqb k j.left || eqb k j.right) (take i js) ≡ used js i k
unfolding used
used_any js zero k h = refl
used_any js (suc i) k h =
    let p : Join → Bool = λ j. eqb k j.left || eqb k j.right in
    ap (λ n. list_any p (take n js)) (sym (add-one i))
    ∙ ap (list_any p) (take_more js i (record { left = 0; right = 0 }) (omega arith))
    ∙ list_any-append p (take i js) (join_at js i ∷ [])
    ∙ either (list_any p (take i js)) (p (join_at js i)) (used js i k) (used_any js i k (omega arith))

counted_more : (xs : List Bool) (n : ℕ) (b : Bool) {k : ℕ} → n < length xs → get_or xs n false ≡ b → count_by (λ b. b) (take n xs) ≡ k → count_by (λ b. b) (take (n + 1) xs) ≡ k + cond b 1 0
counted_more xs n true h e q = count_by_more_yes (λ b. b) xs n false h e ∙ ap (λ m. m + 1) q
counted_more xs n false h e q = count_by_more_no (λ b. b) xs n false h e ∙ omega arith

-- how many of a row's first places are marked
pub size_counted : (xs : List Bool) (n : ℕ) → n ≤ length xs → count_by (λ b. b) (take n xs) ≡ size n (λ k. get_or xs k false)
unfolding size
size_counted xs zero h = refl
size_counted xs (suc n) h = ap (λ m. count_by (λ b. b) (take m xs)) (sym (add-one n)) ∙ counted_more xs n (get_or xs n false) (omega arith) refl (size_counted xs n (omega arith))

-- what holds of each element that calls in turn gave, where each call keeps a fact of the closure's state
pub made_in_turn : {F B : Type 0} (g : Mut F (ℕ × Unit {0}) B) (I : F → Type 0) (R : ℕ → B → Type 0) → ((p q : F) (i : ℕ) (y : B) → I p → Called g p (i, tt) y q → R i y × I q)
    → (ys : List B) (n i : ℕ) (f : F) → I f → IsFromFnResultFrom g f ys i n → (k : ℕ) (d : B) → i ≤ k → k < i + n → R k (get_or ys k d)
made_in_turn g I R step ys zero i f h e k d l m = absurd (omega arith)
made_in_turn g I R step ys (suc n) i f h (q, y, at, called, rest) k d l m = elim (cases_eq k i) [
  | inl e ↦ subst (λ j. R j (get_or ys j d)) (sym e) (subst (R i) (sym (at.1 d)) (step f q i y h called).0)
  | inr ne ↦ made_in_turn g I R step ys n (i + 1) q (step f q i y h called).1 rest k d (omega arith) (omega arith)
]
