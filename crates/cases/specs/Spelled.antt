-- The case that the lines of a text spell: what its book means and which pairs it bars.
use Rattle.std.specs.Prelude.{ℕ, ◌-◌, ◌^◌, Bool, false, cond, ◌&&◌, List, [], ◌++◌, map, length, None, Option, nat_lt, slice_index_or}
use Rattle.weighing.specs.Charges.{Charge}
use Rattle.book.specs.Books.{Meaning}
use Rattle.lines.specs.Told.{Told}
use Rattle.filing.specs.Standing.{at_start, all_rows}
use Rattle.filing.specs.Contents.{scopes_of, rules_of, bars_of, barred_in_turn, ruled_by}
use Rattle.filing.specs.Meanings.{lock_names, holder_names}
use Rattle.filing.specs.Written.{listed}

-- the scopes of all tables: those of the table lines, then those of the rules
abbrev pub all_scopes : List Told → List (List ℕ)
all_scopes ts = scopes_of ts ++ map (λ r. r.scope) (rules_of ts)

-- what a row is charged: by the row lines in a table line's table, and by the rule in a rule's
abbrev pub charged_by : List Told → ℕ → ℕ → Option Charge
charged_by ts t row =
    cond (nat_lt t (length (scopes_of ts))) (listed (all_rows at_start ts) t row) (ruled_by (length (holder_names ts)) (rules_of ts) (t - length (scopes_of ts)) row)

-- a row is one of these tables and of so many holders
abbrev pub is_row : List Told → ℕ → ℕ → Bool
is_row ts t row = nat_lt t (length (all_scopes ts)) && nat_lt row (length (holder_names ts) ^ length (slice_index_or (all_scopes ts) t []))

-- what the book means
unfoldable pub spelled_book : List Told → Meaning
spelled_book ts = record {
  locks = length (lock_names ts);
  holders = length (holder_names ts);
  tables = length (all_scopes ts);
  scope = λ t. slice_index_or (all_scopes ts) t [];
  charge = λ t row. cond (is_row ts t row) (charged_by ts t row) None;
}

-- the pairs that are barred
abbrev pub spelled_bars : List Told → ℕ → ℕ → Bool
spelled_bars ts = barred_in_turn (λ lock holder. false) (bars_of ts)
