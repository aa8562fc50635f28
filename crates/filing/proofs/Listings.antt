-- What a row list says of a row.
use Rattle.std.proofs.Common.{◌≡◌, ℕ, ◌+◌, ◌<◌, ◌≤◌, Bool, true, false, cond, ◌&&◌, eqb, List, [], ◌∷◌, ◌++◌, length, get_or, drop, Some, None, Option, sym, refl, ap, ◌∙◌, inl, inr, arith}
use Rattle.std.proofs.lemmas.Bool.{eqb-true, eq-eqb, lt-ltb, and_parts, and_from, both_ways, cases_Bool, cond-true, cond-false}
use Rattle.std.proofs.lemmas.List.{at_drop_more, at_drop_all}
use Rattle.weighing.specs.Charges.{Charge}
use Rattle.filing.specs.declared.record.RowRecord.{RowRecord}
use Rattle.filing.specs.Written.{listed, written, OfRow, Unlisted, FirstListed, RowsListed}

-- the test of a record
abbrev matches : RowRecord → ℕ → ℕ → Bool
matches x t row = eqb x.table t && eqb x.row row

-- the search at a place that holds a record of the row, at one that does not, and past the last
module _ (xs : List RowRecord) (k : ℕ) (x : RowRecord) (t row : ℕ) (h : k < length xs) (at : x ≡ get_or xs k x) where
  listed_step : listed (drop k xs) t row ≡ cond (matches x t row) (Some x.charge) (listed (drop (k + 1) xs) t row)
  unfolding listed
  listed_step = at_drop_more (λ ys. listed ys t row) xs k x h ∙ ap (λ y. cond (matches y t row) (Some y.charge) (listed (drop (k + 1) xs) t row)) (sym at)

  pub listed_here : x.table ≡ t → x.row ≡ row → listed (drop k xs) t row ≡ Some x.charge
  listed_here e f = listed_step ∙ cond-true _ (Some x.charge) (listed (drop (k + 1) xs) t row) (and_from _ _ (eq-eqb _ _ e) (eq-eqb _ _ f))

  pub listed_more : (eqb x.table t && eqb x.row row) ≡ false → listed (drop k xs) t row ≡ listed (drop (k + 1) xs) t row
  listed_more n = listed_step ∙ cond-false _ (Some x.charge) (listed (drop (k + 1) xs) t row) n

pub listed_all : (xs : List RowRecord) (k t row : ℕ) → length xs ≤ k → listed (drop k xs) t row ≡ None
unfolding listed
listed_all xs k t row h = at_drop_all (λ ys. listed ys t row) xs k h

-- the test tells whether a record is of a row
matches_true : (x : RowRecord) (t row : ℕ) → matches x t row ≡ true → OfRow x t row
matches_true x t row e = let p = and_parts (eqb x.table t) (eqb x.row row) e in record { table = eqb-true _ _ p.0; row = eqb-true _ _ p.1 }

true_matches : (x : RowRecord) (t row : ℕ) → OfRow x t row → matches x t row ≡ true
true_matches x t row o = and_from _ _ (eq-eqb _ _ o.table) (eq-eqb _ _ o.row)

some_none : (c : Charge) → ◌≡◌ {A = Option Charge} (Some c) None → ⊥
some_none c e = let z : ◌≡◌ {A = ℕ} 0 1 = cc in omega arith

some_same : (b c : Charge) → ◌≡◌ {A = Option Charge} (Some b) (Some c) → b ≡ c
some_same b c e = cc

found : (xs : List RowRecord) (t row : ℕ) (c : Charge) → listed xs t row ≡ Some c → FirstListed xs t row c
unfolding listed
found [] t row c e = absurd (some_none c (sym e))
found (x ∷ xs) t row c e = elim (cases_Bool (matches x t row)) [
  | inl m ↦ record { before = []; one = x; after = xs; place = refl; of_row = matches_true x t row m; charge = some_same _ _ (sym (cond-true _ (Some x.charge) (listed xs t row) m) ∙ e); first = tt }
  | inr n ↦
      let f = found xs t row c (sym (cond-false _ (Some x.charge) (listed xs t row) n) ∙ e) in
      record { before = x ∷ f.before; one = f.one; after = f.after; place = ap (λ ys. x ∷ ys) f.place; of_row = f.of_row; charge = f.charge; first = (λ o. both_ways _ n (true_matches x t row o), f.first) }
]

permitted : (before : List RowRecord) (x : RowRecord) (after : List RowRecord) (t row : ℕ) → Unlisted before t row → OfRow x t row → listed (before ++ x ∷ after) t row ≡ Some x.charge
unfolding listed
permitted [] x after t row u o = cond-true _ (Some x.charge) (listed after t row) (true_matches x t row o)
permitted (y ∷ ys) x after t row u o = elim (cases_Bool (matches y t row)) [
  | inl m ↦ absurd (u.0 (matches_true y t row m))
  | inr n ↦ cond-false _ (Some y.charge) (listed (ys ++ x ∷ after) t row) n ∙ permitted ys x after t row u.1 o
]

missing : (xs : List RowRecord) (t row : ℕ) → listed xs t row ≡ None → Unlisted xs t row
unfolding listed
missing [] t row e = tt
missing (x ∷ xs) t row e = elim (cases_Bool (matches x t row)) [
  | inl m ↦ absurd (some_none x.charge (sym (cond-true _ (Some x.charge) (listed xs t row) m) ∙ e))
  | inr n ↦ (λ o. both_ways _ n (true_matches x t row o), missing xs t row (sym (cond-false _ (Some x.charge) (listed xs t row) n) ∙ e))
]

absent : (xs : List RowRecord) (t row : ℕ) → Unlisted xs t row → listed xs t row ≡ None
unfolding listed
absent [] t row u = refl
absent (x ∷ xs) t row u = elim (cases_Bool (matches x t row)) [
  | inl m ↦ absurd (u.0 (matches_true x t row m))
  | inr n ↦ cond-false _ (Some x.charge) (listed xs t row) n ∙ absent xs t row u.1
]

pub rows_listed : RowsListed
rows_listed b t row h k =
    let xs = b.rows.now in
    let inside : (written b).charge t row ≡ listed xs t row = cond-true _ (listed xs t row) None (and_from _ _ (lt-ltb t b.shape.tables h) (lt-ltb row _ k)) in
    record {
      found = λ c e. found xs t row c (sym inside ∙ e);
      permitted = λ c f. inside ∙ ap (λ ys. listed ys t row) f.place ∙ permitted f.before f.one f.after t row f.first f.of_row ∙ ap (λ x. Some x) f.charge;
      missing = λ e. missing xs t row (sym inside ∙ e);
      absent = λ u. inside ∙ absent xs t row u;
    }
