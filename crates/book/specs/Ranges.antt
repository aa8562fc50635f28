-- The layers keep to the ranges of a book: what their `ranged` cites.
use Rattle.std.specs.Prelude.{◌≡◌, ℕ, ◌+◌, ◌-◌, ◌^◌, ◌<◌, ◌≤◌, Bool, true, false, cond, ◌&&◌, List, [], length, None, Option, ◌==◌, nat_le, nat_lt, refl}
use Rattle.std.proofs.Common.{arith}
use Rattle.std.proofs.lemmas.Bool.{ltb-true, ltb-false, eqb-true, leb-true, and_parts, cond_both}
use Rattle.weighing.specs.Charges.{Charge}
use Rattle.book.specs.Lists.{Rising, Below}
use Rattle.book.specs.Books.{Meaning, Ranged}
use Rattle.book.specs.Layers.{Together, together, beside, joined, touches, barred}

-- where the test says yes, two books go together
pub together_true : (m n : Meaning) → together m n ≡ true → Together m n
together_true m n e =
    let p = and_parts (m.locks == n.locks) (m.holders == n.holders && nat_le (m.tables + n.tables) 64) e in
    let q = and_parts (m.holders == n.holders) (nat_le (m.tables + n.tables) 64) p.1 in
    record { locks = eqb-true _ _ p.0; holders = eqb-true _ _ q.0; few = leb-true _ _ q.1 }

-- a table of two books, side by side, is one of the first or one of the second
scope_by : (m n : Meaning) (P : List ℕ → Type 0) (t : ℕ) → (t < m.tables → P (m.scope t)) → (m.tables ≤ t → P (n.scope (t - m.tables))) → P ((beside m n).scope t)
scope_by m n P t f g = cond_both (nat_lt t m.tables) _ _ P (λ h. f (ltb-true _ _ h)) (λ h. g (ltb-false _ _ h))

charge_by : (m n : Meaning) (P : Option Charge → Type 0) (t row : ℕ) → (t < m.tables → P (m.charge t row)) → (m.tables ≤ t → P (n.charge (t - m.tables) row)) → P ((beside m n).charge t row)
charge_by m n P t row f g = cond_both (nat_lt t m.tables) _ _ P (λ h. f (ltb-true _ _ h)) (λ h. g (ltb-false _ _ h))

row_by : (b : Bool) (xs ys : List ℕ) (x y : Option Charge) (H row : ℕ) → (H ^ length xs ≤ row → x ≡ None) → (H ^ length ys ≤ row → y ≡ None) → H ^ length (cond b xs ys) ≤ row → cond b x y ≡ None
row_by true xs ys x y H row f g h = f h
row_by false xs ys x y H row f g h = g h

beside_ranged : (m n : Meaning) → Ranged m → Ranged n → Together m n → Ranged (beside m n)
beside_ranged m n p q e = record {
  some_lock = p.some_lock;
  few_locks = p.few_locks;
  some_holder = p.some_holder;
  few_holders = p.few_holders;
  few_tables = e.few;
  some_scope = λ t h. scope_by m n (λ xs. 0 < length xs) t (λ k. p.some_scope t k) (λ k. q.some_scope (t - m.tables) (omega arith));
  short_scope = λ t. scope_by m n (λ xs. length xs ≤ 4) t (λ k. p.short_scope t) (λ k. q.short_scope (t - m.tables));
  rising = λ t. scope_by m n Rising t (λ k. p.rising t) (λ k. q.rising (t - m.tables));
  below = λ t. scope_by m n (Below m.locks) t (λ k. p.below t) (λ k. rw e.locks (q.below (t - m.tables)));
  no_scope = λ t h. scope_by m n (λ xs. xs ≡ []) t (λ k. absurd (omega arith)) (λ k. q.no_scope (t - m.tables) (omega arith));
  no_table = λ t row h. charge_by m n (λ o. o ≡ None) t row (λ k. absurd (omega arith)) (λ k. q.no_table (t - m.tables) row (omega arith));
  no_row = λ t row h. row_by (nat_lt t m.tables) (m.scope t) (n.scope (t - m.tables)) _ _ m.holders row (λ k. p.no_row t row k) (λ k. q.no_row (t - m.tables) row (rw e.holders at k)) h;
}

pub joined_ranged : (m n : Meaning) → Ranged m → Ranged n → Ranged (joined m n)
joined_ranged m n p q = cond_both (together m n) (beside m n) m Ranged (λ e. beside_ranged m n p q (together_true m n e)) (λ _. p)

-- bars keep to the ranges, since they only take rows away
pub barred_ranged : (bars : ℕ → ℕ → Bool) (m : Meaning) → Ranged m → Ranged (barred bars m)
barred_ranged bars m r = record {
  some_lock = r.some_lock;
  few_locks = r.few_locks;
  some_holder = r.some_holder;
  few_holders = r.few_holders;
  few_tables = r.few_tables;
  some_scope = r.some_scope;
  short_scope = r.short_scope;
  rising = r.rising;
  below = r.below;
  no_scope = r.no_scope;
  no_table = λ t row h. cut (touches bars m.holders (m.scope t) row) (r.no_table t row h);
  no_row = λ t row h. cut (touches bars m.holders (m.scope t) row) (r.no_row t row h);
}
  where
    cut : (b : Bool) {o : Option Charge} → o ≡ None → cond b None o ≡ None
    cut b {o} e = cond_both b None o (λ x. x ≡ None) (λ _. refl) (λ _. e)
