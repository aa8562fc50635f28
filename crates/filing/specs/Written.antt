-- What a written book means.
use Rattle.std.specs.Prelude.{◌≡◌, ℕ, ◌^◌, ◌<◌, cond, ◌&&◌, List, [], ◌∷◌, ◌++◌, length, Some, None, Option, ◌==◌}
use Rattle.weighing.specs.Charges.{Charge}
use Rattle.book.specs.Books.{Meaning}
use Rattle.filing.specs.declared.record.RowRecord.{RowRecord}
use Rattle.filing.specs.declared.written.WrittenBook.{WrittenBook}
use Rattle.book.specs.BookShapes.{over_shape}

-- the charge of the first record of a row; a row that is not listed is absent
unfoldable pub listed : List RowRecord → ℕ → ℕ → Option Charge
listed [] t row = None
listed (x ∷ xs) t row = cond (x.table == t && x.row == row) (Some x.charge) (listed xs t row)

abbrev pub written : WrittenBook → Meaning
written b = over_shape b.shape (listed b.rows.now)

-- a record is of this row
pub record OfRow (x : RowRecord) (t k : ℕ) : Type 0 where
  pub table : x.table ≡ t
  pub row : x.row ≡ k

-- no record of the list is of this row
abbrev pub Unlisted : List RowRecord → ℕ → ℕ → Type 0
Unlisted [] t row = Unit {0}
Unlisted (x ∷ xs) t row = (OfRow x t row → ⊥) × Unlisted xs t row

-- some record of the list is of this row and has this charge, and none before it is of the row
pub record FirstListed (xs : List RowRecord) (t row : ℕ) (c : Charge) : Type 0 where
  pub before : List RowRecord
  pub one : RowRecord
  pub after : List RowRecord
  pub place : xs ≡ before ++ one ∷ after
  pub of_row : OfRow one t row
  pub charge : one.charge ≡ c
  pub first : Unlisted before t row

-- within the book a row is permitted with a charge exactly when its first record has that charge, and absent
-- exactly when it is not listed
pub record ListedRow (b : WrittenBook) (t row : ℕ) : Type 0 where
  pub found : (c : Charge) → (written b).charge t row ≡ Some c → FirstListed b.rows.now t row c
  pub permitted : (c : Charge) → FirstListed b.rows.now t row c → (written b).charge t row ≡ Some c
  pub missing : (written b).charge t row ≡ None → Unlisted b.rows.now t row
  pub absent : Unlisted b.rows.now t row → (written b).charge t row ≡ None

abbrev pub RowsListed : Type 0
RowsListed = (b : WrittenBook) (t row : ℕ) → t < (written b).tables → row < (written b).holders ^ length ((written b).scope t) → ListedRow b t row
