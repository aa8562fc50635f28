-- What lines say together: the scopes of the tables, the rules, the joins and the bars, each in the text's order.
use Rattle.std.specs.Prelude.{◌≡◌, ℕ, ◌^◌, ◌<◌, Bool, true, List, [], ◌∷◌, ◌++◌, map, length, None, Option, slice_index_or}
use Rattle.weighing.specs.Charges.{Charge}
use Rattle.book.specs.Books.{Meaning}
use Rattle.aggregation.specs.declared.join.Join.{Join}
use Rattle.book.specs.Layers.{bar_put}
use Rattle.lines.specs.Told.{Told, locks, holders, table, row, differ, same, join, bar}
use Rattle.filing.specs.declared.rule.RuleForm.{RuleForm}
use Rattle.filing.specs.declared.rule.RuleForm.TheVariants as form
use Rattle.filing.specs.declared.rule.Rule.{Rule}
use Rattle.filing.specs.Rules.{ruled}
use Rattle.filing.specs.Standing.{Standing, at_start, place_of, places, charge_of, after}

-- what each line adds, in turn
unfoldable pub gather : {A : Type 0} → (Standing → Told → List A) → Standing → List Told → List A
gather f s [] = []
gather f s (t ∷ ts) = f s t ++ gather f (after s t) ts

-- the scope of a table line, as lock numbers
abbrev pub line_scopes : Standing → Told → List (List ℕ)
line_scopes s (locks ns) = []
line_scopes s (holders ns) = []
line_scopes s (table ns) = places s.locks ns ∷ []
line_scopes s (row ns n) = []
line_scopes s (differ ns n) = []
line_scopes s (same ns n) = []
line_scopes s (join m n) = []
line_scopes s (bar l h) = []

-- a rule with its two locks
pub record Ruling : Type 0 where
  pub scope : List ℕ
  pub rule : Rule

abbrev pub ruling : RuleForm → List ℕ → Charge → Ruling
ruling f xs c = record { scope = xs; rule = record { form = f; charge = c } }

abbrev pub line_rules : Standing → Told → List Ruling
line_rules s (locks ns) = []
line_rules s (holders ns) = []
line_rules s (table ns) = []
line_rules s (row ns n) = []
line_rules s (differ ns n) = ruling form.Differ (places s.locks ns) (charge_of n) ∷ []
line_rules s (same ns n) = ruling form.Same (places s.locks ns) (charge_of n) ∷ []
line_rules s (join m n) = []
line_rules s (bar l h) = []

abbrev pub line_joins : Standing → Told → List Join
line_joins s (locks ns) = []
line_joins s (holders ns) = []
line_joins s (table ns) = []
line_joins s (row ns n) = []
line_joins s (differ ns n) = []
line_joins s (same ns n) = []
line_joins s (join m n) = record { left = m; right = n } ∷ []
line_joins s (bar l h) = []

-- a lock and a holder
pub record Pair : Type 0 where
  pub lock : ℕ
  pub holder : ℕ

abbrev pub line_bars : Standing → Told → List Pair
line_bars s (locks ns) = []
line_bars s (holders ns) = []
line_bars s (table ns) = []
line_bars s (row ns n) = []
line_bars s (differ ns n) = []
line_bars s (same ns n) = []
line_bars s (join m n) = []
line_bars s (bar l h) = record { lock = place_of s.locks l; holder = place_of s.holders h } ∷ []

-- the contents of lines
abbrev pub scopes_of : List Told → List (List ℕ)
scopes_of ts = gather line_scopes at_start ts

abbrev pub rules_of : List Told → List Ruling
rules_of ts = gather line_rules at_start ts

abbrev pub joins_of : List Told → List Join
joins_of ts = gather line_joins at_start ts

abbrev pub bars_of : List Told → List Pair
bars_of ts = gather line_bars at_start ts

-- the bars after pairs are barred in turn
unfoldable pub barred_in_turn : (ℕ → ℕ → Bool) → List Pair → ℕ → ℕ → Bool
barred_in_turn bars [] = bars
barred_in_turn bars (p ∷ ps) = barred_in_turn (bar_put bars p.lock p.holder true) ps

-- a book with so many locks and holders, whose tables have these scopes and whose rows are charged so
pub record BookOf (m : Meaning) (L H : ℕ) (xs : List (List ℕ)) (charged : ℕ → ℕ → Option Charge) : Type 0 where
  pub locks : m.locks ≡ L
  pub holders : m.holders ≡ H
  pub tables : m.tables ≡ length xs
  pub scope : (t : ℕ) → t < length xs → m.scope t ≡ slice_index_or xs t []
  pub charge : (t row : ℕ) → t < length xs → row < H ^ length (slice_index_or xs t []) → m.charge t row ≡ charged t row

-- what rules charge
unfoldable pub ruled_by : ℕ → List Ruling → ℕ → ℕ → Option Charge
ruled_by H rs t = slice_index_or (map (λ r. ruled r.rule H) rs) t (λ row. None)
