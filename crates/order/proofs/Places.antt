-- Lists that a loop fills from the left, place by place.
use Rattle.std.proofs.Common.{◌≡◌, ℕ, ◌+◌, ◌<◌, List, length, get_or, set, sym, ap, ◌∙◌, subst, inl, inr, arith}
use Rattle.std.proofs.lemmas.List.{get_or-set_same, get_or-set_other}
use Rattle.std.proofs.lemmas.Bool.{cases_eq}

-- one more place has what F says of it, seen through f
pub places_more : {A X : Type 0} (f : A → X) (d : A) (F : ℕ → X) (xs : List A) (i : ℕ) (a : A) → i < length xs → f a ≡ F i → ((k : ℕ) → k < i → f (get_or xs k d) ≡ F k)
    → (k : ℕ) → k < i + 1 → f (get_or (set xs i a) k d) ≡ F k
places_more f d F xs i a h e before k l = elim (cases_eq k i) [ inl p ↦ here p | inr n ↦ ap f (get_or-set_other xs i k a d n) ∙ before k (omega arith) ]
  where
    here : k ≡ i → f (get_or (set xs i a) k d) ≡ F k
    here p = subst (λ n. f (get_or (set xs i a) n d) ≡ F n) (sym p) (ap f (get_or-set_same xs i a d h) ∙ e)
