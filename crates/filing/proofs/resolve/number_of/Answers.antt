use Rattle.std.proofs.Common.{refl, arith}
use Rattle.book.specs.Rows.{row_number}
use Rattle.filing.proofs.Naming.{row_more}
use Rattle.filing.proofs.resolve.number_of.Goals as goal

pub loop-place-init : goal.loop-place-init
unfolding row_number
loop-place-init c = refl

pub overflow_mul-row : goal.overflow_mul-row
overflow_mul-row c =
    let places = c.as_slice-place-items.ensures in
    omega (arith, (row_more c.args.holders c.as_slice-place-items.result.now c.loop-place.place-index c.loop-place.row (omega arith) (omega arith) (rw places.value c.requires.below) c.loop-place-test.true c.loop-place.invariant).0)

pub overflow_add-row : goal.overflow_add-row
overflow_add-row c =
    let places = c.as_slice-place-items.ensures in
    let more = row_more c.args.holders c.as_slice-place-items.result.now c.loop-place.place-index c.loop-place.row (omega arith) (omega arith) (rw places.value c.requires.below) c.loop-place-test.true c.loop-place.invariant in
    omega (arith, more.0, more.2)

pub loop-place-preserved : goal.loop-place-preserved
loop-place-preserved c =
    let places = c.as_slice-place-items.ensures in
    (row_more c.args.holders c.as_slice-place-items.result.now c.loop-place.place-index c.loop-place.row (omega arith) (omega arith) (rw places.value c.requires.below) c.loop-place-test.true c.loop-place.invariant).1
