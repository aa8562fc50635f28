use Rattle.std.specs.Prelude.{ℕ, List, take}
use Rattle.book.specs.declared.scope.Scope.{Scope}

-- the locks that a scope names, rising
abbrev pub named : Scope → List ℕ
named s = take s.len s.locks
