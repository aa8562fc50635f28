use Rattle.std.proofs.Common.{◌≡◌, ◌-◌, ◌^◌, length, drop}
use Rattle.book.specs.Layers.{touches, bar_at}
use Rattle.book.specs.Scopes.{named}
use Rattle.book.proofs.barred.touched.Given as goal

abbrev pub invariant-loop-lock : goal.invariant-loop-lock
invariant-loop-lock l =
    (l.place ≡ l.holders ^ (length (named l.scope) - l.lock-index))
    × (touches (bar_at l.bars) l.holders (named l.scope) l.row ≡ touches (bar_at l.bars) l.holders (drop l.lock-index (named l.scope)) l.left)
