use Rattle.std.proofs.Common.{◌≡◌, ℕ, false, length, get_or, take}
use Rattle.book.specs.Scopes.{named}
use Rattle.aggregation.specs.Sets.{among}
use Rattle.order.proofs.marks.Marks.of.Given as goal

abbrev pub invariant-loop-lock : goal.invariant-loop-lock
invariant-loop-lock l = (length l.on ≡ 64) × ((k : ℕ) → get_or l.on k false ≡ among (take l.lock-index (named l.scope)) k)
