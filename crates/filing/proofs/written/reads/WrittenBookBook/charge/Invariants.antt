use Rattle.std.proofs.Common.{◌≡◌, drop}
use Rattle.filing.specs.Written.{listed}
use Rattle.filing.proofs.written.reads.WrittenBookBook.charge.Given as goal

abbrev pub invariant-loop-record : goal.invariant-loop-record
invariant-loop-record l = listed l.self.rows.now l.table l.row ≡ listed (drop l.record-index l.self.rows.now) l.table l.row
