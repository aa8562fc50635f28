use Rattle.std.proofs.Common.{◌≡◌, ℕ, ◌<◌, ◌≤◌, Bool, true, false, ◌&&◌, eqb, List, [], ◌∷◌, ◌++◌, length, take, get_or, Some, None, Option, Bor, sym, ap, ◌∙◌, subst, arith, rules, eqb-true, MatchOption}
use borrow.Author.Tests.{clash, tests}
use Rattle.std.specs.List.{HoldsAt}
use Rattle.std.specs.Option.{option_eq}
use Rattle.filing.specs.declared.record.RowRecord.{RowRecord}
use Rattle.std.proofs.lemmas.Bool.{and_parts, not-true, not-false}
use Rattle.std.proofs.lemmas.List.{take_more}
use Rattle.weighing.specs.Charges.{charge_eq}
use Rattle.std.proofs.lemmas.Option.{MatchOption-at_some}
use Rattle.std.proofs.lemmas.Result.{err_from_is_err_and}
use Rattle.book.specs.declared.refusal.RecordCause.TheVariants.{NoRoom}
use Rattle.filing.specs.Reading.{OtherRow, Refused, record_refusal}
use Rattle.filing.specs.Standing.{at_start, all_rows}
use Rattle.filing.proofs.Filling.{refused, pass, add, stuck, same_count, same_rows, one_count, one_row}
use Rattle.filing.proofs.check.check_rows.Goals as goal

pub returns-in_err-entry : goal.returns-in_err-entry
returns-in_err-entry c =
    let p = err_from_is_err_and c.from_residual-in_err-entry.result c.from_residual-in_err-entry.ensures.1 in
    record { lines = c.loop-entry.invariant.0; result = rw (p.1, p.2) (refused _ _ _ _ c.loop-entry.invariant.1 _ c.in_err-entry.ensures.0) }

pub loop-entry-preserved-in_default-entry : goal.loop-entry-preserved-in_default-entry
loop-entry-preserved-in_default-entry c =
    let t = MatchOption-at_some _ _ _ c.in-Some.is c.in_ok-entry.ensures in
    let n = same_count (OtherRow c.args.rows.now) _ _ _ c.loop-entry.invariant.1 _ _ t c.in_default-entry.not-Row in (
      c.loop-entry.invariant.0 ++ (t.line ∷ []),
      pass _ _ _ _ c.loop-entry.invariant.1 _ _ t c.in_default-entry.not-Row,
      record {
        within = omega (arith, n, c.loop-entry.invariant.2.within);
        front = ap (λ k. take k c.args.rows.now) n ∙ c.loop-entry.invariant.2.front ∙ sym (same_rows (OtherRow c.args.rows.now) _ _ _ c.loop-entry.invariant.1 _ _ t c.in_default-entry.not-Row);
      },
    )

-- equal records are the same
record_eq : (a b : RowRecord) → a.table ≡ b.table → a.row ≡ b.row → a.charge.value ≡ b.charge.value → a ≡ b
record_eq a b p q r = λ i. record { table = p i; row = q i; charge = charge_eq a.charge b.charge r i }

sound : (a b : RowRecord) → eqb a.table b.table && (eqb a.row b.row && eqb a.charge.value b.charge.value) ≡ true → a ≡ b
sound a b e =
    let p = and_parts (eqb a.table b.table) _ e in
    let q = and_parts (eqb a.row b.row) _ p.1 in
    record_eq a b (eqb-true _ _ p.0) (eqb-true _ _ q.0) (eqb-true _ _ q.1)

full : (a : RowRecord) → eqb a.table a.table && (eqb a.row a.row && eqb a.charge.value a.charge.value) ≡ true
full a = search (rules, tests)

module _ (same : RowRecord → RowRecord → Bool) (only : (a b : RowRecord) → same a b ≡ true → a ≡ b) (self : (a : RowRecord) → same a a ≡ true) where
  -- what stands at a place of the list, where the test says that it is the record, or that it is not
  here : (list : List RowRecord) (k : ℕ) (o : Option (Bor RowRecord)) (r : Bor RowRecord) → MatchOption o (length list ≤ k) (λ x. (k < length list) × HoldsAt (λ y. x.now ≡ y) list k) → option_eq (λ x y. same x.now y.now) o (Some r) ≡ true → (k < length list) × (get_or list k r.now ≡ r.now)
  here list k None r h e = absurd (clash e)
  here list k (Some x) r h e = (h.0, sym (h.1 r.now) ∙ only x.now r.now e)

  not_here : (list : List RowRecord) (k : ℕ) (o : Option (Bor RowRecord)) (r : Bor RowRecord) → MatchOption o (length list ≤ k) (λ x. (k < length list) × HoldsAt (λ y. x.now ≡ y) list k) → option_eq (λ x y. same x.now y.now) o (Some r) ≡ false → (k < length list) × (get_or list k r.now ≡ r.now) → ⊥
  not_here list k None r h e w = omega (arith, w.0)
  not_here list k (Some x) r h e w = clash (sym e ∙ ap (λ a. same a r.now) (h.1 r.now ∙ w.1) ∙ self r.now)

pub returns-then-ne : goal.returns-then-ne
returns-then-ne c =
    let t = MatchOption-at_some _ _ _ c.in-Some.is c.in_ok-entry.ensures in
    record {
      lines = c.loop-entry.invariant.0;
      result =
          subst (λ e. Refused (OtherRow c.args.rows.now) c.args.text.now e c.loop-entry.invariant.0) (sym (c.refuse.ensures ∙ ap (λ k. record_refusal k NoRoom) c.place-place.ensures))
          (stuck _ _ _ _ c.loop-entry.invariant.1 _ _ t c.in-Row.row c.in-Row.is
          (not_here _ sound full _ _ _ _ (rw c.rows-found.ensures at c.get.ensures.lookup.3) (not-true _ (sym c.ne.ensures ∙ c.if-ne.true))));
    }

pub loop-entry-preserved : goal.loop-entry-preserved
loop-entry-preserved c =
    let t = MatchOption-at_some _ _ _ c.in-Some.is c.in_ok-entry.ensures in
    let n = one_count (OtherRow c.args.rows.now) _ _ _ c.loop-entry.invariant.1 _ _ t c.in-Row.row c.in-Row.is in
    let h = here _ sound full _ _ _ _ (rw c.rows-found.ensures at c.get.ensures.lookup.3) (not-false _ (sym c.ne.ensures ∙ c.if-ne.false)) in (
      c.loop-entry.invariant.0 ++ (t.line ∷ []),
      add _ _ _ _ c.loop-entry.invariant.1 _ _ t c.in-Row.row c.in-Row.is (λ other. other h),
      record {
        within = omega (arith, n, h.0);
        front =
            ap (λ k. take k c.args.rows.now) n
            ∙ take_more c.args.rows.now c.loop-entry.scan.reader.rows c.in-Row.row h.0
            ∙ ap (λ l. l ++ (get_or c.args.rows.now c.loop-entry.scan.reader.rows c.in-Row.row ∷ [])) c.loop-entry.invariant.2.front
            ∙ ap (λ x. all_rows at_start c.loop-entry.invariant.0 ++ (x ∷ [])) h.1
            ∙ sym (one_row (OtherRow c.args.rows.now) _ _ _ c.loop-entry.invariant.1 _ _ t c.in-Row.row c.in-Row.is);
      },
    )
