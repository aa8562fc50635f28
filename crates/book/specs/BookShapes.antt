-- What a book's shape is of, and a book by its shape: its numbers and scopes, and what its rows are charged.
use Rattle.std.specs.Prelude.{◌≡◌, ℕ, ◌+◌, ◌^◌, ◌<◌, Bool, cond, ◌&&◌, length, None, Option, nat_lt, slice_set}
use Rattle.std.proofs.lemmas.Bool.{le-ltb, and_left, and_right, cond-false}
use Rattle.weighing.specs.Charges.{Charge}
use Rattle.book.specs.Books.{Meaning, Ranged}
use Rattle.book.specs.declared.scope.Scope.{Scope}
use Rattle.book.specs.Shapes.{scope_at}
use Rattle.book.specs.declared.shape.BookShape.{BookShape}

-- there is such a table and it has such a row
abbrev pub has_row : BookShape → ℕ → ℕ → Bool
has_row s t row = nat_lt t s.tables && nat_lt row (s.holders ^ length (scope_at s.scopes t))

-- a row that the shape has is charged as said; any other is absent
abbrev pub over_shape : BookShape → (ℕ → ℕ → Option Charge) → Meaning
over_shape s charge = record {
  locks = s.locks;
  holders = s.holders;
  tables = s.tables;
  scope = scope_at s.scopes;
  charge = λ t row. cond (has_row s t row) (charge t row) None;
}

-- such a book keeps to the ranges
pub shape_ranged : (s : BookShape) (charge : ℕ → ℕ → Option Charge) → Ranged (over_shape s charge)
shape_ranged s charge = record {
  some_lock = s.some_lock;
  few_locks = s.few_locks;
  some_holder = s.some_holder;
  few_holders = s.few_holders;
  few_tables = s.few_tables;
  some_scope = s.some_scope;
  short_scope = s.short_scope;
  rising = s.rising;
  below = s.below;
  no_scope = s.no_scope;
  no_table = λ t row h. cond-false _ (charge t row) None (and_left (nat_lt t s.tables) _ (le-ltb t s.tables h));
  no_row = λ t row h. cond-false _ (charge t row) None (and_right (nat_lt t s.tables) _ (le-ltb row (s.holders ^ length (scope_at s.scopes t)) h));
}

-- one shape is another with one more table
pub record OneMore (s n : BookShape) (scope : Scope) : Type 0 where
  pub locks : n.locks ≡ s.locks
  pub holders : n.holders ≡ s.holders
  pub tables : n.tables ≡ s.tables + 1
  pub scopes : n.scopes ≡ slice_set s.scopes s.tables scope
  pub room : s.tables < length s.scopes

-- a shape is that of a book that means m
pub record ShapeOf (m : Meaning) (s : BookShape) : Type 0 where
  pub locks : s.locks ≡ m.locks
  pub holders : s.holders ≡ m.holders
  pub tables : s.tables ≡ m.tables
  pub scopes : (t : ℕ) → scope_at s.scopes t ≡ m.scope t

-- a shape has so many locks and holders, and no tables
pub record Empty (locks holders : ℕ) (s : BookShape) : Type 0 where
  pub locks_are : s.locks ≡ locks
  pub holders_are : s.holders ≡ holders
  pub tables : s.tables ≡ 0
