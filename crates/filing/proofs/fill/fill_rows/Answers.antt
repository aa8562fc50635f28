use Rattle.std.proofs.Common.{[], ◌∷◌, ◌++◌, sym, ap, ◌∙◌, subst, arith}
use Rattle.std.proofs.lemmas.Option.{MatchOption-at_some, MatchOption-at_none}
use Rattle.std.proofs.lemmas.Result.{err_from_is_err_and}
use Rattle.book.specs.declared.refusal.RecordCause.TheVariants.{NoRoom}
use Rattle.filing.specs.Reading.{Full, Refused, record_refusal}
use Rattle.filing.proofs.Filling.{count, done, refused, pass, same_list, add, more_list, stuck}
use Rattle.filing.proofs.fill.fill_rows.Goals as goal

pub returns-in_err-entry : goal.returns-in_err-entry
returns-in_err-entry c =
    let p = err_from_is_err_and c.from_residual-in_err-entry.result c.from_residual-in_err-entry.ensures.1 in
    record { lines = c.loop-entry.invariant.0; rows = c.loop-entry.invariant.2; result = rw (p.1, p.2) (refused _ _ _ _ c.loop-entry.invariant.1 _ c.in_err-entry.ensures.0) }

pub returns-in_default : goal.returns-in_default
returns-in_default c = record {
  lines = c.loop-entry.invariant.0;
  rows = c.loop-entry.invariant.2;
  result = (done _ _ _ _ c.loop-entry.invariant.1 (MatchOption-at_none _ _ c.in_default.is c.in_ok-entry.ensures).0, c.rows-filled.ensures ∙ count _ _ _ _ c.loop-entry.invariant.1);
}

pub loop-entry-preserved-in_default-entry : goal.loop-entry-preserved-in_default-entry
loop-entry-preserved-in_default-entry c =
    let t = MatchOption-at_some _ _ _ c.in-Some.is c.in_ok-entry.ensures in (
      c.loop-entry.invariant.0 ++ (t.line ∷ []),
      pass _ _ _ _ c.loop-entry.invariant.1 _ _ t c.in_default-entry.not-Row,
      same_list (Full c.args.rows.now) _ _ _ c.loop-entry.invariant.1 _ _ t c.in_default-entry.not-Row c.args.rows.now c.loop-entry.rows c.loop-entry.invariant.2,
    )

pub returns-then-filled-rows : goal.returns-then-filled-rows
returns-then-filled-rows c =
    let t = MatchOption-at_some _ _ _ c.in-Some.is c.in_ok-entry.ensures in
    record {
      lines = c.loop-entry.invariant.0;
      rows = c.loop-entry.invariant.2;
      result =
          subst (λ e. Refused (Full c.args.rows.now) c.args.text.now e c.loop-entry.invariant.0) (sym (c.refuse.ensures ∙ ap (λ k. record_refusal k NoRoom) c.place-place.ensures))
          (stuck _ _ _ _ c.loop-entry.invariant.1 _ _ t c.in-Row.row c.in-Row.is (omega (arith, c.rows-filled.ensures)));
    }

pub loop-entry-preserved : goal.loop-entry-preserved
loop-entry-preserved c =
    let t = MatchOption-at_some _ _ _ c.in-Some.is c.in_ok-entry.ensures in (
      c.loop-entry.invariant.0 ++ (t.line ∷ []),
      add _ _ _ _ c.loop-entry.invariant.1 _ _ t c.in-Row.row c.in-Row.is (λ full. omega (arith, c.rows-filled.ensures)),
      rw c.rows-filled.ensures (more_list (Full c.args.rows.now) _ _ _ c.loop-entry.invariant.1 _ _ t c.in-Row.row c.in-Row.is c.args.rows.now c.loop-entry.rows c.loop-entry.invariant.2 (omega (arith, c.rows-filled.ensures))),
    )
