-- The numbers and the scopes that a book can have.
use Rattle.std.specs.Prelude.{ℕ, ◌<◌, ◌≤◌, List, [], map, length, slice_index_or}
use Rattle.book.specs.declared.scope.Scope.{Scope}
use Rattle.book.specs.Lists.{Below}
use Rattle.book.specs.Scopes.{named}

-- the locks that the scope at a place names; none beyond the last
abbrev pub scope_at : List Scope → ℕ → List ℕ
scope_at scopes t = slice_index_or (map named scopes) t []

-- so many locks and holders can be a book's
abbrev pub Numbers : ℕ → ℕ → Type 0
Numbers locks holders = (0 < locks) × ((locks ≤ 64) × ((0 < holders) × (holders ≤ 16)))

-- locks that can be a table's in a book with so many locks
pub record Fit (locks : ℕ) (xs : List ℕ) : Type 0 where
  pub some : 0 < length xs
  pub short : length xs ≤ 4
  pub below : Below locks xs
