-- The full text of a case: the two lists of names, each table with its permitted rows rising, the joins, and the bars
-- rising. Bars are left aside in the rows, and a rule's table is spelled by its rows like any other.
use Rattle.std.specs.Prelude.{ℕ, zero, suc, ◌*◌, ◌/◌, ◌%◌, ◌^◌, Bool, cond, List, [], ◌∷◌, ◌++◌, map, length, Some, None, Option, slice_index_or}
use Rattle.weighing.specs.Charges.{Charge}
use Rattle.book.specs.Books.{Meaning}
use Rattle.book.specs.Rows.{digits}
use Rattle.aggregation.specs.declared.join.Join.{Join}
use Rattle.lines.specs.Told.{Told, locks, holders, table, row, join, bar}
use Rattle.lines.specs.Texts.{spell_all}

-- what a function of a number gives at 0, 1, .. , n - 1, one after the other
unfoldable pub in_turn : {A : Type 0} → (ℕ → List A) → ℕ → List A
in_turn f zero = []
in_turn f (suc n) = in_turn f n ++ f n

-- the name with a number, and the names with numbers
abbrev pub name_of : List (List ℕ) → ℕ → List ℕ
name_of names k = slice_index_or names k []

abbrev pub names_at : List (List ℕ) → List ℕ → List (List ℕ)
names_at names ks = map (name_of names) ks

-- the line of a row of w holders, where it is permitted
abbrev pub row_line : List (List ℕ) → ℕ → ℕ → ℕ → Option Charge → List Told
row_line hs H w k None = []
row_line hs H w k (Some c) = row (names_at hs (digits H w k)) c.value ∷ []

-- the line of a barred pair, by its number: the lock's times H, and the holder's
abbrev pub bar_line : List (List ℕ) → List (List ℕ) → (ℕ → ℕ → Bool) → ℕ → ℕ → List Told
bar_line ls hs bars H k = cond (bars (k / H) (k % H)) (bar (name_of ls (k / H)) (name_of hs (k % H)) ∷ []) []

abbrev pub join_line : Join → Told
join_line j = join j.left j.right

-- of a book that means m, with the names of its locks and of its holders
module _ (ls hs : List (List ℕ)) (m : Meaning) where
  -- the permitted rows of a table, rising
  abbrev pub row_lines : ℕ → List Told
  row_lines t = in_turn (λ k. row_line hs m.holders (length (m.scope t)) k (m.charge t k)) (m.holders ^ length (m.scope t))

  -- a table and its rows
  abbrev pub table_lines : ℕ → List Told
  table_lines t = table (names_at ls (m.scope t)) ∷ row_lines t

  -- the bars, rising, the lock counting before the holder
  abbrev pub bar_lines : (ℕ → ℕ → Bool) → List Told
  bar_lines bars = in_turn (bar_line ls hs bars m.holders) (m.locks * m.holders)

  -- all lines, under an order of these joins and with these bars
  abbrev pub full_lines : List Join → (ℕ → ℕ → Bool) → List Told
  full_lines js bars =
      locks ls ∷ holders hs ∷ (in_turn table_lines m.tables ++ (map join_line js ++ bar_lines bars))

  -- their bytes
  abbrev pub full_text : List Join → (ℕ → ℕ → Bool) → List ℕ
  full_text js bars = spell_all (full_lines js bars)
