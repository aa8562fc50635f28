use Rattle.std.proofs.Common.{◌≡◌, take}
use Rattle.book.specs.Rows.{row_number}
use Rattle.filing.proofs.resolve.number_of.Given as goal

abbrev pub invariant-loop-place : goal.invariant-loop-place
invariant-loop-place l = l.row ≡ row_number l.holders (take l.place-index l.place-items)
