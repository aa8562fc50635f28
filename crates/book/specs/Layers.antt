-- What two books mean joined, and what a book means with bars.
use Rattle.std.specs.Prelude.{◌≡◌, ℕ, ◌+◌, ◌-◌, ◌/◌, ◌%◌, ◌^◌, ◌<◌, ◌≤◌, Bool, true, false, cond, not, ◌&&◌, ◌||◌, ◌⊎◌, List, [], ◌∷◌, length, Some, None, ◌==◌, nat_le, nat_lt, slice_index, slice_index_or}
use Rattle.std.specs.Bool.{beq}
use Rattle.weighing.specs.Charges.{Charge}
use Rattle.book.specs.Lists.{Below}
use Rattle.book.specs.Books.{Meaning}
use Rattle.book.specs.Rows.{row_number, digits}

-- two books go together: they agree in locks and holders, and their tables are at most 64 in all
pub record Together (m n : Meaning) : Type 0 where
  pub locks : m.locks ≡ n.locks
  pub holders : m.holders ≡ n.holders
  pub few : m.tables + n.tables ≤ 64

-- the test of it
abbrev pub together : Meaning → Meaning → Bool
together m n = m.locks == n.locks && (m.holders == n.holders && nat_le (m.tables + n.tables) 64)

-- the tables of the first, then those of the second
abbrev pub beside : Meaning → Meaning → Meaning
beside m n = record {
  locks = m.locks;
  holders = m.holders;
  tables = m.tables + n.tables;
  scope = λ t. cond (nat_lt t m.tables) (m.scope t) (n.scope (t - m.tables));
  charge = λ t row. cond (nat_lt t m.tables) (m.charge t row) (n.charge (t - m.tables) row);
}

-- two books that do not go together mean the first alone
abbrev pub joined : Meaning → Meaning → Meaning
joined m n = cond (together m n) (beside m n) m

-- what joining comes to, where the two go together
pub record InTurn (m n j : Meaning) : Type 0 where
  pub locks : (j.locks ≡ m.locks) × (j.locks ≡ n.locks)
  pub holders : (j.holders ≡ m.holders) × (j.holders ≡ n.holders)
  pub tables : j.tables ≡ m.tables + n.tables
  pub first_scope : (t : ℕ) → t < m.tables → j.scope t ≡ m.scope t
  pub first_charge : (t row : ℕ) → t < m.tables → j.charge t row ≡ m.charge t row
  pub second_scope : (t : ℕ) → j.scope (m.tables + t) ≡ n.scope t
  pub second_charge : (t row : ℕ) → j.charge (m.tables + t) row ≡ n.charge t row

-- joined books have the first's tables and then the second's if they go together, and else mean the first
abbrev pub JoinedTables : Type 0
JoinedTables = (m n : Meaning) → (Together m n → InTurn m n (joined m n)) × ((Together m n → ⊥) → joined m n ≡ m)

-- Bars are a test of pairs (lock, holder): whether a row over these locks names a barred pair.
unfoldable pub touches : (ℕ → ℕ → Bool) → ℕ → List ℕ → ℕ → Bool
touches bars H [] row = false
touches bars H (l ∷ ls) row = bars l (row / H ^ length ls) || touches bars H ls (row % H ^ length ls)

-- a row that names a barred pair is absent; all else is as below
abbrev pub barred : (ℕ → ℕ → Bool) → Meaning → Meaning
barred bars m = record {
  locks = m.locks;
  holders = m.holders;
  tables = m.tables;
  scope = m.scope;
  charge = λ t row. cond (touches bars m.holders (m.scope t) row) None (m.charge t row);
}

-- some place of the locks and of the holders makes a barred pair
abbrev pub NamesBar : (ℕ → ℕ → Bool) → List ℕ → List ℕ → Type 0
NamesBar bars ls hs = (k : ℕ) × (k < length ls) × (bars (slice_index ls k) (slice_index hs k) ≡ true)

-- what bars make of a row with these holders: it is absent exactly when it was, or when it names a barred
-- pair, and if it is permitted it keeps its charge
pub record BarredRow (bars : ℕ → ℕ → Bool) (m : Meaning) (t row : ℕ) (hs : List ℕ) : Type 0 where
  pub absent : (barred bars m).charge t row ≡ None → (m.charge t row ≡ None) ⊎ NamesBar bars (m.scope t) hs
  pub gone : (m.charge t row ≡ None) ⊎ NamesBar bars (m.scope t) hs → (barred bars m).charge t row ≡ None
  pub keeps : (c : Charge) → (barred bars m).charge t row ≡ Some c → m.charge t row ≡ Some c

-- of every row by its digits, and of every row number by the holders that it was made of
pub record BarredRows (bars : ℕ → ℕ → Bool) (m : Meaning) (t : ℕ) : Type 0 where
  pub by_row : (row : ℕ) → BarredRow bars m t row (digits m.holders (length (m.scope t)) row)
  pub by_holders : (hs : List ℕ) → length hs ≡ length (m.scope t) → Below m.holders hs → BarredRow bars m t (row_number m.holders hs) hs

abbrev pub RowsBarred : Type 0
RowsBarred = (bars : ℕ → ℕ → Bool) (m : Meaning) (t : ℕ) → 0 < m.holders → BarredRows bars m t

-- what a table of bars says of a pair; beyond it no pair is barred
abbrev pub bar_at : List (List Bool) → ℕ → ℕ → Bool
bar_at bars lock holder = slice_index_or (slice_index_or bars lock []) holder false

-- the pairs that bars are kept for: 64 locks, 16 holders
abbrev pub kept_pair : ℕ → ℕ → Bool
kept_pair lock holder = nat_lt lock 64 && nat_lt holder 16

-- the bars after a pair that they are kept for has been set
abbrev pub bar_put : (ℕ → ℕ → Bool) → ℕ → ℕ → Bool → ℕ → ℕ → Bool
bar_put bars lock holder b l h = cond (kept_pair lock holder && (l == lock && h == holder)) b (bars l h)

-- whether setting a pair changes the bars
abbrev pub bar_changes : (ℕ → ℕ → Bool) → ℕ → ℕ → Bool → Bool
bar_changes bars lock holder b = kept_pair lock holder && not (beq (bars lock holder) b)
