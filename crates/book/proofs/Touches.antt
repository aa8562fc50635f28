-- What bars make of a row.
use Rattle.std.proofs.Common.{◌≡◌, ℕ, zero, suc, ◌+◌, ◌-◌, ◌/◌, ◌%◌, ◌^◌, ◌<◌, ◌≤◌, Bool, true, false, cond, ◌||◌, ◌⊎◌, List, [], ◌∷◌, length, get_or, drop, Some, None, Option, sym, ap, ◌∙◌, subst, inl, inr, arith, length-drop}
use Rattle.std.proofs.lemmas.Bool.{false≢true, or_cases, or_left, or_right, cases_Bool, cond-true, cond-false}
use Rattle.std.proofs.lemmas.List.{at_drop_more, at_drop_all}
use Rattle.weighing.specs.Charges.{Charge}
use Rattle.book.specs.Books.{Meaning}
use Rattle.book.specs.Rows.{row_number, digits}
use Rattle.book.specs.Layers.{touches, NamesBar, BarredRow, RowsBarred}
use Rattle.book.proofs.Numbers.{place_more, rows_numbered}

-- one lock on, where `place` is the place value of the digit before: the pair is barred, or the rest tells
module _ (bars : ℕ → ℕ → Bool) (H : ℕ) (xs : List ℕ) (k row place l : ℕ) (p : 0 < H) (h : k < length xs) (e : place ≡ H ^ (length xs - k)) (at : l ≡ get_or xs k 0) where
  touch_step : touches bars H (drop k xs) row ≡ (bars l (row / (place / H)) || touches bars H (drop (k + 1) xs) (row % (place / H)))
  unfolding touches
  touch_step =
      let power : H ^ length (drop (k + 1) xs) ≡ place / H = ap (λ n. H ^ n) (length-drop (k + 1) xs) ∙ sym (place_more H (length xs) k place p h e) in
      at_drop_more (λ ys. touches bars H ys row) xs k 0 h ∙ (λ i. bars (sym at i) (row / power i) || touches bars H (drop (k + 1) xs) (row % power i))

  pub touch_here : true ≡ bars l (row / (place / H)) → touches bars H (drop k xs) row ≡ true
  touch_here b = touch_step ∙ or_left _ _ (sym b)

  pub touch_more : false ≡ bars l (row / (place / H)) → touches bars H (drop k xs) row ≡ touches bars H (drop (k + 1) xs) (row % (place / H))
  touch_more b = touch_step ∙ ap (λ x. x || touches bars H (drop (k + 1) xs) (row % (place / H))) (sym b)

pub touch_all : (bars : ℕ → ℕ → Bool) (H : ℕ) (xs : List ℕ) (k row : ℕ) → length xs ≤ k → touches bars H (drop k xs) row ≡ false
unfolding touches
touch_all bars H xs k row h = at_drop_all (λ ys. touches bars H ys row) xs k h

-- the test says yes exactly where some place of the locks and of the digits makes a barred pair
touch_names : (bars : ℕ → ℕ → Bool) (H : ℕ) (ls : List ℕ) (row : ℕ) → touches bars H ls row ≡ true → NamesBar bars ls (digits H (length ls) row)
unfolding touches digits
touch_names bars H [] row e = absurd (false≢true e)
touch_names bars H (l ∷ ls) row e = elim (or_cases (bars l (row / H ^ length ls)) (touches bars H ls (row % H ^ length ls)) e) [
  | inl b ↦ (0, omega arith, b)
  | inr b ↦ let n = touch_names bars H ls (row % H ^ length ls) b in (suc n.0, omega (arith, n.1), n.2)
]

names_touch : (bars : ℕ → ℕ → Bool) (H : ℕ) (ls : List ℕ) (row : ℕ) → NamesBar bars ls (digits H (length ls) row) → touches bars H ls row ≡ true
unfolding touches digits
names_touch bars H [] row (k, h, b) = absurd (omega arith)
names_touch bars H (l ∷ ls) row (zero, h, b) = or_left (bars l (row / H ^ length ls)) _ b
names_touch bars H (l ∷ ls) row (suc k, h, b) = or_right (bars l (row / H ^ length ls)) _ (names_touch bars H ls (row % H ^ length ls) (k, omega arith, b))

-- a row under a test that takes it away
module _ (b : Bool) (o : Option Charge) (N : Type 0) (to : b ≡ true → N) (from : N → b ≡ true) where
  pub taken : cond b None o ≡ None → (o ≡ None) ⊎ N
  taken e = elim (cases_Bool b) [ inl t ↦ inr (to t) | inr f ↦ inl (sym (cond-false b None o f) ∙ e) ]

  pub takes : (o ≡ None) ⊎ N → cond b None o ≡ None
  takes (inl e) = elim (cases_Bool b) [ inl t ↦ cond-true b None o t | inr f ↦ cond-false b None o f ∙ e ]
  takes (inr n) = cond-true b None o (from n)

  pub leaves : (c : Charge) → cond b None o ≡ Some c → o ≡ Some c
  leaves c e = elim (cases_Bool b) [ inl t ↦ absurd (none_some c (sym (cond-true b None o t) ∙ e)) | inr f ↦ sym (cond-false b None o f) ∙ e ]
    where
      none_some : (c : Charge) → ◌≡◌ {A = Option Charge} None (Some c) → ⊥
      none_some c e = let z : ◌≡◌ {A = ℕ} 0 1 = cc in omega arith

barred_row : (bars : ℕ → ℕ → Bool) (m : Meaning) (t row : ℕ) → BarredRow bars m t row (digits m.holders (length (m.scope t)) row)
barred_row bars m t row =
    let to = touch_names bars m.holders (m.scope t) row in
    let from = names_touch bars m.holders (m.scope t) row in
    let b = touches bars m.holders (m.scope t) row in
    let N = NamesBar bars (m.scope t) (digits m.holders (length (m.scope t)) row) in
    record { absent = taken b (m.charge t row) N to from; gone = takes b (m.charge t row) N to from; keeps = leaves b (m.charge t row) N to from }

pub rows_barred : RowsBarred
rows_barred bars m t p = record {
  by_row = barred_row bars m t;
  by_holders = λ hs e h. subst (BarredRow bars m t (row_number m.holders hs)) (ap (λ w. digits m.holders w (row_number m.holders hs)) (sym e) ∙ (rows_numbered m.holders p).read hs h) (barred_row bars m t (row_number m.holders hs));
}
