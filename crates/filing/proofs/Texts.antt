-- One line more of a text: what stands then, its rows, and that all lines before pass.
use Rattle.std.proofs.Common.{◌≡◌, ℕ, ◌+◌, ◌<◌, ◌≤◌, List, [], ◌∷◌, ◌++◌, length, drop, set, sym, refl, ap, ◌∙◌, subst, append_assoc, append-nil, arith, length-append, length-drop}
use Rattle.std.proofs.ByRecursion.{All-push}
use Rattle.std.proofs.lemmas.List.{drop-drop}
use Rattle.book.specs.declared.refusal.Refusal.{Refusal}
use Rattle.book.specs.declared.refusal.RecordCause.TheVariants.{Misplaced, TooMany, WrongName, NotRising, NoRoom}
use Rattle.lines.specs.Told.{Told, locks, holders, table, row, differ, same, join, bar, spell, Good}
use Rattle.lines.specs.Texts.{spell_all, Begins}
use Rattle.filing.specs.declared.record.RowRecord.{RowRecord}
use Rattle.filing.specs.declared.reader.Entry.{Entry}
use Rattle.filing.specs.declared.reader.Entry.TheVariants as entry
use Rattle.filing.specs.Standing.{Standing, at_start, after, after_all, line_rows, all_rows}
use Rattle.filing.specs.Judging.{HasNoRoom, Passes}
use Rattle.filing.specs.Reading.{AllPass, Reached, Accepted, Stops, no_line, met, ended}
use Rattle.filing.specs.Readers.{AnyRow, Adds, Taken}
use Rattle.filing.proofs.Judged.{first_any, room}

pub after_push : (s : Standing) (ts : List Told) (t : Told) → after_all s (ts ++ (t ∷ [])) ≡ after (after_all s ts) t
after_push s [] t = refl
after_push s (u ∷ ts) t = after_push (after s u) ts t

pub rows_push : (s : Standing) (ts : List Told) (t : Told) → all_rows s (ts ++ (t ∷ [])) ≡ all_rows s ts ++ line_rows (after_all s ts) t
rows_push s [] t = append-nil (line_rows s t)
rows_push s (u ∷ ts) t = ap (λ l. line_rows s u ++ l) (rows_push (after s u) ts t) ∙ sym (append_assoc (line_rows s u) (all_rows (after s u) ts) _)

pass_push : (Bad : ℕ → RowRecord → Type 0) (s : Standing) (ts : List Told) (t : Told) → AllPass Bad s ts → Passes Bad (after_all s ts) t → AllPass Bad s (ts ++ (t ∷ []))
pass_push Bad s [] t a p = (p, tt)
pass_push Bad s (u ∷ ts) t a p = (a.0, pass_push Bad (after s u) ts t a.1 p)

spell_push : (ts : List Told) (t : Told) (rest : List ℕ) → spell_all (ts ++ (t ∷ [])) ++ rest ≡ spell_all ts ++ (spell t ++ (10 ∷ rest))
spell_push [] t rest = append_assoc (spell t) (10 ∷ []) rest
spell_push (u ∷ ts) t rest =
    append_assoc (spell u) (10 ∷ spell_all (ts ++ (t ∷ []))) rest ∙ ap (λ l. spell u ++ (10 ∷ l)) (spell_push ts t rest) ∙ sym (append_assoc (spell u) (10 ∷ spell_all ts) (spell t ++ (10 ∷ rest)))

pub reached_more : (Bad : ℕ → RowRecord → Type 0) (text : List ℕ) (ts : List Told) (rest next : List ℕ) (t : Told) → Reached Bad text ts rest → Begins t rest next → Passes Bad (after_all at_start ts) t → Reached Bad text (ts ++ (t ∷ [])) next
reached_more Bad text ts rest next t r b p = record {
  good = All-push Good ts t r.good b.good;
  whole = r.whole ∙ ap (λ l. spell_all ts ++ l) b.is ∙ sym (spell_push ts t next);
  pass = pass_push Bad at_start ts t r.pass p;
}

-- how many rows there are

pub line_count : (s : Standing) (t : Told) → (after s t).rows ≡ s.rows + length (line_rows s t)
line_count s (locks ns) = omega arith
line_count s (holders ns) = omega arith
line_count s (table ns) = omega arith
line_count s (row ns n) = omega arith
line_count s (differ ns n) = omega arith
line_count s (same ns n) = omega arith
line_count s (join m n) = omega arith
line_count s (bar l h) = omega arith

pub row_count : (s : Standing) (ts : List Told) → (after_all s ts).rows ≡ s.rows + length (all_rows s ts)
row_count s [] = omega arith
row_count s (t ∷ ts) = row_count (after s t) ts ∙ ap (λ k. k + length (all_rows (after s t) ts)) (line_count s t) ∙ omega (arith, length-append (line_rows s t) (all_rows (after s t) ts))

-- a line that is taken is one row at most, and is longer than nothing: so no count outgrows the text
one_at_most : (s : Standing) (t : Told) → (after s t).rows ≤ s.rows + 1
one_at_most s (locks ns) = omega arith
one_at_most s (holders ns) = omega arith
one_at_most s (table ns) = omega arith
one_at_most s (row ns n) = omega arith
one_at_most s (differ ns n) = omega arith
one_at_most s (same ns n) = omega arith
one_at_most s (join m n) = omega arith
one_at_most s (bar l h) = omega arith

pub still_fits : (s next : Standing) (t : Told) (e : Entry) (text rest : List ℕ) (place : ℕ) → Taken s t next e → Begins t text rest → s.rows + length text ≤ 65535 → place + length text ≤ 65536 → (next.rows + length rest ≤ 65535) × (place + 1 + length rest ≤ 65536)
still_fits s next t e text rest place k b rows places =
    let l : length rest + 1 ≤ length text = omega (arith, ap length b.is, length-append (spell t) (10 ∷ rest)) in
    (omega (arith, ap (λ q. q.rows) k.moves, one_at_most s t), omega arith)

-- with a row list

pub passes_with : (Bad Other : ℕ → RowRecord → Type 0) (s : Standing) (t : Told) → Passes Bad s t → (HasNoRoom Other s t → ⊥) → Passes Other s t
passes_with Bad Other s t p has Misplaced m = p Misplaced m
passes_with Bad Other s t p has TooMany m = p TooMany m
passes_with Bad Other s t p has WrongName m = p WrongName m
passes_with Bad Other s t p has NotRising m = p NotRising m
passes_with Bad Other s t p has NoRoom m = has m

pub stops_with : (Bad : ℕ → RowRecord → Type 0) (s : Standing) (place : ℕ) (rest : List ℕ) (e : Refusal) → Stops AnyRow s place rest e → Stops Bad s place rest e
stops_with Bad s place rest e (no_line some none is) = no_line some none is
stops_with Bad s place rest e (met t next cause begins first is) = met t next cause begins (first_any Bad s t cause first) is
stops_with Bad s place rest e (ended none unfit is) = ended none unfit is

-- an entry that is no row comes from a line without rows
pub no_row : (Bad : ℕ → RowRecord → Type 0) (s : Standing) (t : Told) (e : Entry) → Adds s t e → ((r : RowRecord) → e ≡ entry.Row r → ⊥) → (line_rows s t ≡ []) × (HasNoRoom Bad s t → ⊥)
no_row Bad s (locks ns) e a not = (refl, λ h. h)
no_row Bad s (holders ns) e a not = (refl, λ h. h)
no_row Bad s (table ns) e a not = (refl, λ h. h)
no_row Bad s (row ns n) e a not = absurd (not _ a)
no_row Bad s (differ ns n) e a not = (refl, λ h. h)
no_row Bad s (same ns n) e a not = (refl, λ h. h)
no_row Bad s (join m n) e a not = (refl, λ h. h)
no_row Bad s (bar l h) e a not = (refl, λ h. h)

-- and one that is a row from a line with that row
pub record HasRow (Bad : ℕ → RowRecord → Type 0) (s : Standing) (t : Told) (r : RowRecord) : Type 0 where
  pub rows : line_rows s t ≡ r ∷ []
  pub bad : Bad s.rows r → HasNoRoom Bad s t
  pub only_bad : HasNoRoom Bad s t → Bad s.rows r

same_row : (r q : RowRecord) → ◌≡◌ {A = Entry} (entry.Row r) (entry.Row q) → q ≡ r
same_row r q e = cc

pub has_row : (Bad : ℕ → RowRecord → Type 0) (s : Standing) (t : Told) (r : RowRecord) → Adds s t (entry.Row r) → HasRow Bad s t r
has_row Bad s (locks ns) r a = absurd (let e = a in cc)
has_row Bad s (holders ns) r a = absurd (let e = a in cc)
has_row Bad s (table ns) r a = absurd (let e = a.2 in cc)
has_row Bad s (row ns n) r a =
    let e = same_row r _ a in
    record { rows = ap (λ x. x ∷ []) e; bad = subst (Bad s.rows) (sym e); only_bad = subst (Bad s.rows) e }
has_row Bad s (differ ns n) r a = absurd (let e = a.2 in cc)
has_row Bad s (same ns n) r a = absurd (let e = a.2 in cc)
has_row Bad s (join m n) r a = absurd (let e = a in cc)
has_row Bad s (bar l h) r a = absurd (let e = a in cc)

-- the row list with one row more

set_at : (xs ys : List RowRecord) (w : RowRecord) → 0 < length ys → set (xs ++ ys) (length xs) w ≡ (xs ++ (w ∷ [])) ++ drop 1 ys
set_at [] [] w h = absurd (omega arith)
set_at [] (y ∷ ys) w h = refl
set_at (x ∷ xs) ys w h = ap (λ l. x ∷ l) (set_at xs ys w h)

pub put_row : (xs before : List RowRecord) (k : ℕ) (w : RowRecord) → k ≡ length xs → k < length before → set (xs ++ drop (length xs) before) k w ≡ (xs ++ (w ∷ [])) ++ drop (length (xs ++ (w ∷ []))) before
put_row xs before k w e h =
    ap (λ i. set (xs ++ drop (length xs) before) i w) e ∙ set_at xs (drop (length xs) before) w (omega (arith, length-drop (length xs) before)) ∙ ap (λ l. (xs ++ (w ∷ [])) ++ l) (drop-drop 1 (length xs) before ∙ ap (λ i. drop i before) (sym (length-append xs (w ∷ []))))

-- what is accepted with a row list is accepted with the list left aside

pass_any : (Bad : ℕ → RowRecord → Type 0) (s : Standing) (ts : List Told) → AllPass Bad s ts → AllPass AnyRow s ts
pass_any Bad s [] a = tt
pass_any Bad s (t ∷ ts) a = (passes_with Bad AnyRow s t a.0 (room s t), pass_any Bad (after s t) ts a.1)

pub accepted_any : (Bad : ℕ → RowRecord → Type 0) (text : List ℕ) (ts : List Told) → Accepted Bad text ts → Accepted AnyRow text ts
accepted_any Bad text ts a = record {
  short = a.short;
  reached = record { good = a.reached.good; whole = a.reached.whole; pass = pass_any Bad at_start ts a.reached.pass };
  ends = a.ends;
}
