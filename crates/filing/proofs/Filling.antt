-- A text line by line: the lines so far, and what the row list holds after them.
use Rattle.std.proofs.Common.{◌≡◌, ℕ, ◌+◌, ◌<◌, ◌≤◌, List, [], ◌∷◌, ◌++◌, length, drop, set, sym, refl, ap, ◌∙◌, subst, append-nil, arith, length-append}
use Rattle.book.specs.declared.refusal.Refusal.{Refusal}
use Rattle.book.specs.declared.refusal.RecordCause.TheVariants.{NoRoom}
use Rattle.lines.specs.Told.{Told, spell}
use Rattle.filing.specs.declared.record.RowRecord.{RowRecord}
use Rattle.filing.specs.declared.reader.Entry.{Entry}
use Rattle.filing.specs.declared.reader.Entry.TheVariants as entry
use Rattle.filing.specs.declared.scan.Scan.{Scan}
use Rattle.filing.specs.Standing.{at_start, after, after_all, line_rows, all_rows}
use Rattle.filing.specs.Follows.{may_end}
use Rattle.filing.specs.Judging.{HasNoRoom, Passes}
use Rattle.filing.specs.Reading.{Reached, Accepted, Stops, Refused, met, at, filled, record_refusal}
use Rattle.filing.specs.Readers.{AnyRow, Adds}
use Rattle.filing.specs.Scanning.{standing_at, Opened, Ended, Stepped}
use Rattle.filing.proofs.Judged.{first_room}
use Rattle.filing.proofs.Texts.{after_push, rows_push, reached_more, row_count, line_count, passes_with, stops_with, no_row, HasRow, has_row, put_row}

-- the lines so far, of which none meets a condition
pub record Sofar (Bad : ℕ → RowRecord → Type 0) (text : List ℕ) (ts : List Told) (p : Scan) : Type 0 where
  pub short : length text ≤ 65535
  pub reached : Reached Bad text ts p.rest.now
  pub stands : standing_at p ≡ after_all at_start ts
  pub place : p.place ≡ length ts + 1

pub start : (Bad : ℕ → RowRecord → Type 0) (text : List ℕ) (p : Scan) → length text ≤ 65535 → Opened text p → Sofar Bad text [] p
start Bad text p short o = record {
  short = short;
  reached = record { good = tt; whole = sym o.rest; pass = tt };
  stands = o.stands;
  place = o.place;
}

module _ (Bad : ℕ → RowRecord → Type 0) (text : List ℕ) (ts : List Told) (p : Scan) (s : Sofar Bad text ts p) where
  -- how many of them are rows
  pub count : (standing_at p).rows ≡ length (all_rows at_start ts)
  count = omega (arith, ap (λ q. q.rows) s.stands, row_count at_start ts)

  pub done : Ended p → Accepted Bad text ts
  done e = record {
    short = s.short;
    reached = subst (Reached Bad text ts) e.rest s.reached;
    ends = ap (λ q. may_end q.before) (sym s.stands) ∙ e.ends;
  }

  stopped : (e : Refusal) → Stops Bad (standing_at p) p.place p.rest.now e → Refused Bad text e ts
  stopped e h = at (record {
    short = s.short;
    rest = p.rest.now;
    reached = s.reached;
    stops = subst (λ k. Stops Bad (after_all at_start ts) k p.rest.now e) s.place (subst (λ q. Stops Bad q p.place p.rest.now e) s.stands h);
  })

  pub refused : (e : Refusal) → Stops AnyRow (standing_at p) p.place p.rest.now e → Refused Bad text e ts
  refused e h = stopped e (stops_with Bad _ _ _ e h)

  module _ (q : Scan) (e : Entry) (step : Stepped p q e) where
    stands_more : standing_at q ≡ after_all at_start (ts ++ (step.line ∷ []))
    stands_more = step.taken.moves ∙ ap (λ k. after k step.line) s.stands ∙ sym (after_push at_start ts step.line)

    rows_next : all_rows at_start (ts ++ (step.line ∷ [])) ≡ all_rows at_start ts ++ line_rows (standing_at p) step.line
    rows_next = rows_push at_start ts step.line ∙ ap (λ k. all_rows at_start ts ++ line_rows k step.line) (sym s.stands)

    -- the line has room, whatever it holds
    pub onward : (HasNoRoom Bad (standing_at p) step.line → ⊥) → Sofar Bad text (ts ++ (step.line ∷ [])) q
    onward has = record {
      short = s.short;
      reached =
          reached_more Bad text ts p.rest.now q.rest.now step.line s.reached step.begins
          (subst (λ k. Passes Bad k step.line) s.stands (passes_with AnyRow Bad (standing_at p) step.line step.taken.passes has));
      stands = stands_more;
      place = omega (arith, step.place, s.place, length-append ts (step.line ∷ []));
    }

    module _ (other : (r : RowRecord) → e ≡ entry.Row r → ⊥) where
      none_here : (line_rows (standing_at p) step.line ≡ []) × (HasNoRoom Bad (standing_at p) step.line → ⊥)
      none_here = no_row Bad (standing_at p) step.line e step.taken.adds other

      pub same_rows : all_rows at_start (ts ++ (step.line ∷ [])) ≡ all_rows at_start ts
      same_rows = rows_next ∙ ap (λ l. all_rows at_start ts ++ l) none_here.0 ∙ append-nil _

      pub same_count : (standing_at q).rows ≡ (standing_at p).rows
      same_count = omega (arith, ap (λ k. k.rows) step.taken.moves, line_count (standing_at p) step.line, ap length none_here.0)

      -- the line holds no row
      pub pass : Sofar Bad text (ts ++ (step.line ∷ [])) q
      pass = onward none_here.1

      pub same_list : (before now : List RowRecord) → now ≡ filled ts before → now ≡ filled (ts ++ (step.line ∷ [])) before
      same_list before now h = h ∙ ap (λ l. l ++ drop (length l) before) (sym same_rows)

    module _ (r : RowRecord) (is : e ≡ entry.Row r) where
      row_here : HasRow Bad (standing_at p) step.line r
      row_here = has_row Bad (standing_at p) step.line r (subst (Adds (standing_at p) step.line) is step.taken.adds)

      pub one_row : all_rows at_start (ts ++ (step.line ∷ [])) ≡ all_rows at_start ts ++ (r ∷ [])
      one_row = rows_next ∙ ap (λ l. all_rows at_start ts ++ l) row_here.rows

      pub one_count : (standing_at q).rows ≡ (standing_at p).rows + 1
      one_count = omega (arith, ap (λ k. k.rows) step.taken.moves, line_count (standing_at p) step.line, ap length row_here.rows)

      -- the line holds a row, and it is not bad
      pub add : (Bad (standing_at p).rows r → ⊥) → Sofar Bad text (ts ++ (step.line ∷ [])) q
      add fine = onward (λ h. fine (row_here.only_bad h))

      pub more_list : (before now : List RowRecord) → now ≡ filled ts before → (standing_at p).rows < length before → set now (standing_at p).rows r ≡ filled (ts ++ (step.line ∷ [])) before
      more_list before now h room =
          ap (λ l. set l (standing_at p).rows r) h ∙ put_row (all_rows at_start ts) before (standing_at p).rows r count room ∙ ap (λ l. l ++ drop (length l) before) (sym one_row)

      -- and it is bad
      pub stuck : Bad (standing_at p).rows r → Refused Bad text (record_refusal p.place NoRoom) ts
      stuck bad = stopped _ (met step.line q.rest.now NoRoom step.begins (first_room Bad (standing_at p) step.line step.taken.passes (row_here.bad bad)) refl)

-- each line is shorter than what it begins
pub shorter : (p q : Scan) (e : Entry) → Stepped p q e → length q.rest.now < length p.rest.now
shorter p q e step = omega (arith, ap length step.begins.is, length-append (spell step.line) (10 ∷ q.rest.now))
