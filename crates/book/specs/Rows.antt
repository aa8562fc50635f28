-- Row numbers: the holders of a row read as digits of base H, the first lock's digit leading.
use Rattle.std.specs.Prelude.{◌≡◌, ℕ, zero, suc, ◌+◌, ◌*◌, ◌/◌, ◌%◌, ◌^◌, ◌<◌, List, [], ◌∷◌, length}
use Rattle.book.specs.Lists.{Below}

-- the row number of these holders
unfoldable pub row_number : ℕ → List ℕ → ℕ
row_number H [] = 0
row_number H (d ∷ ds) = d * H ^ length ds + row_number H ds

-- the w holders that a row number stands for
unfoldable pub digits : ℕ → ℕ → ℕ → List ℕ
digits H zero row = []
digits H (suc w) row = row / H ^ w ∷ digits H w (row % H ^ w)

-- the row numbers of w holders below H are the numbers below H ^ w, each of one row
pub record Numbering (H : ℕ) : Type 0 where
  pub small : (ds : List ℕ) → Below H ds → row_number H ds < H ^ length ds
  pub read : (ds : List ℕ) → Below H ds → digits H (length ds) (row_number H ds) ≡ ds
  pub wide : (w row : ℕ) → length (digits H w row) ≡ w
  pub holders : (w row : ℕ) → row < H ^ w → Below H (digits H w row)
  pub back : (w row : ℕ) → row < H ^ w → row_number H (digits H w row) ≡ row

abbrev pub RowsNumbered : Type 0
RowsNumbered = (H : ℕ) → 0 < H → Numbering H
