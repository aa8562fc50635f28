use Rattle.std.proofs.Common.{◌≡◌, false, ◌&&◌, eqb, None, sym, refl, ◌∙◌}
use Rattle.std.proofs.lemmas.Bool.{and_left, and_right, ne_eqb, cond-true}
use Rattle.book.specs.BookShapes.{has_row}
use Rattle.filing.specs.Written.{listed}
use Rattle.filing.proofs.Listings.{listed_here, listed_more, listed_all}
use Rattle.filing.proofs.written.reads.WrittenBookBook.charge.Goals as goal
use Rattle.filing.proofs.written.reads.WrittenBookBook.charge.Goals.{else-record-table-via-then-record-table+else-record-row, else-record-table-via-else-record-table}

pub loop-record-init : goal.loop-record-init
loop-record-init c = refl

pub returns-then-record-row : goal.returns-then-record-row
returns-then-record-row c =
    let b = c.args.self.now in
    let here = listed_here b.rows.now c.loop-record.record-index c.record-item.result c.args.table c.args.row c.loop-record-test.true c.record-item.is c.if-record-table.true c.if-record-row.true in
    sym (cond-true (has_row b.shape c.args.table c.args.row) (listed b.rows.now c.args.table c.args.row) None (sym c.if-not-has_row.ensures.value) ∙ c.loop-record.invariant ∙ here)

pub loop-record-preserved : goal.loop-record-preserved
loop-record-preserved c =
    let x = c.record-item.result in
    let miss : (eqb x.table c.args.table && eqb x.row c.args.row) ≡ false =
    elim c.else-record-table.branch [
      | else-record-table-via-then-record-table+else-record-row w ↦ and_right (eqb x.table c.args.table) _ (ne_eqb _ _ w.if-record-row.false)
      | else-record-table-via-else-record-table w ↦ and_left (eqb x.table c.args.table) _ (ne_eqb _ _ w.if-record-table.false)
    ] in
    c.loop-record.invariant ∙ listed_more c.args.self.now.rows.now c.loop-record.record-index x c.args.table c.args.row c.loop-record-test.true c.record-item.is miss

pub returns : goal.returns
returns c =
    let b = c.args.self.now in
    let past = listed_all b.rows.now c.loop-record.record-index c.args.table c.args.row c.loop-record-test.false in
    sym (cond-true (has_row b.shape c.args.table c.args.row) (listed b.rows.now c.args.table c.args.row) None (sym c.if-not-has_row.ensures.value) ∙ c.loop-record.invariant ∙ past)
