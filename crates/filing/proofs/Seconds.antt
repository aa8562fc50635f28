-- The second call after the first: each row is found where the first call put it.
use Rattle.std.proofs.Common.{◌≡◌, ℕ, ◌+◌, ◌<◌, List, [], ◌∷◌, ◌++◌, length, get_or, drop, sym, refl, ap, ◌∙◌, subst, append_assoc, add-zero, arith, length-append}
use Rattle.std.proofs.lemmas.List.{get_or-append-add}
use Rattle.lines.specs.Told.{Told, locks, holders, table, row, differ, same, join, bar}
use Rattle.filing.specs.declared.record.RowRecord.{RowRecord}
use Rattle.filing.specs.Standing.{Standing, at_start, after, line_rows, all_rows, record_of}
use Rattle.filing.specs.Judging.{HasNoRoom}
use Rattle.filing.specs.Reading.{Full, OtherRow, AllPass, filled}
use Rattle.filing.specs.Verdicts.{SecondFollows}
use Rattle.filing.proofs.Texts.{line_count, passes_with}

-- the list has these rows from the place k on
pub record From (list : List RowRecord) (k : ℕ) (rows : List RowRecord) : Type 0 where
  pub before : List RowRecord
  pub after : List RowRecord
  pub size : length before ≡ k
  pub whole : list ≡ before ++ (rows ++ after)

from_more : (list : List RowRecord) (k : ℕ) (xs ys : List RowRecord) → From list k (xs ++ ys) → From list (k + length xs) ys
from_more list k xs ys f = record {
  before = f.before ++ xs;
  after = f.after;
  size = length-append f.before xs ∙ ap (λ n. n + length xs) f.size;
  whole = f.whole ∙ ap (λ l. f.before ++ l) (append_assoc xs ys f.after) ∙ sym (append_assoc f.before xs (ys ++ f.after));
}

from_here : (list : List RowRecord) (k : ℕ) (r : RowRecord) (ys : List RowRecord) → From list k (r ∷ ys) → (k < length list) × (get_or list k r ≡ r)
from_here list k r ys f = (
  omega (arith, f.size, ap length f.whole, length-append f.before (r ∷ (ys ++ f.after))),
  ap (λ l. get_or l k r) f.whole ∙ ap (λ n. get_or (f.before ++ (r ∷ (ys ++ f.after))) n r) (sym f.size ∙ sym (add-zero (length f.before))) ∙ get_or-append-add f.before (r ∷ (ys ++ f.after)) 0 r,
)

no_other : (list : List RowRecord) (s : Standing) (t : Told) (ys : List RowRecord) → From list s.rows (line_rows s t ++ ys) → HasNoRoom (OtherRow list) s t → ⊥
no_other list s (locks ns) ys f h = h
no_other list s (holders ns) ys f h = h
no_other list s (table ns) ys f h = h
no_other list s (row ns n) ys f h = h (from_here list s.rows (record_of s ns n) ys f)
no_other list s (differ ns n) ys f h = h
no_other list s (same ns n) ys f h = h
no_other list s (join m n) ys f h = h
no_other list s (bar l k) ys f h = h

all_other : (Bad : ℕ → RowRecord → Type 0) (list : List RowRecord) (s : Standing) (ts : List Told) → From list s.rows (all_rows s ts) → AllPass Bad s ts → AllPass (OtherRow list) s ts
all_other Bad list s [] f a = tt
all_other Bad list s (t ∷ ts) f a = (
  passes_with Bad (OtherRow list) s t a.0 (no_other list s t (all_rows (after s t) ts) f),
  all_other Bad list (after s t) ts (subst (λ k. From list k (all_rows (after s t) ts)) (sym (line_count s t)) (from_more list s.rows (line_rows s t) (all_rows (after s t) ts) f)) a.1,
)

pub second_follows : SecondFollows
second_follows text list ts a = record {
  short = a.short;
  reached = record {
    good = a.reached.good;
    whole = a.reached.whole;
    pass = all_other (Full list) (filled ts list) at_start ts (record { before = []; after = drop (length (all_rows at_start ts)) list; size = refl; whole = refl }) a.reached.pass;
  };
  ends = a.ends;
}
