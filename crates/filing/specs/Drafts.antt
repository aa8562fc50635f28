-- The contents of a case as they are gathered, entry by entry.
use Rattle.std.specs.Prelude.{◌≡◌, ℕ, ◌<◌, false, List, [], ◌∷◌, ◌++◌, map, length, take}
use Rattle.aggregation.specs.declared.join.Join.{Join}
use Rattle.book.specs.Layers.{bar_at}
use Rattle.book.specs.Scopes.{named}
use Rattle.filing.specs.declared.draft.Draft.{Draft}
use Rattle.filing.specs.declared.joins.Joins.{Joins}
use Rattle.filing.specs.declared.reader.Entry.{Entry}
use Rattle.filing.specs.declared.reader.Entry.TheVariants as entry
use Rattle.filing.specs.declared.record.RowRecord.{RowRecord}
use Rattle.filing.specs.Contents.{Ruling, Pair, barred_in_turn, BookOf, ruled_by}
use Rattle.filing.specs.Rules.{by_rules}
use Rattle.book.specs.Shapes.{Fit}
use Rattle.filing.specs.Written.{listed, written}

-- the contents of an entry

abbrev pub entry_scopes : Entry → List (List ℕ)
entry_scopes entry.Names = []
entry_scopes (entry.Table scope) = named scope ∷ []
entry_scopes (entry.Row r) = []
entry_scopes (entry.Rule scope r) = []
entry_scopes (entry.Join m n) = []
entry_scopes (entry.Bar l h) = []

abbrev pub entry_rules : Entry → List Ruling
entry_rules entry.Names = []
entry_rules (entry.Table scope) = []
entry_rules (entry.Row r) = []
entry_rules (entry.Rule scope r) = record { scope = named scope; rule = r } ∷ []
entry_rules (entry.Join m n) = []
entry_rules (entry.Bar l h) = []

abbrev pub entry_joins : Entry → List Join
entry_joins entry.Names = []
entry_joins (entry.Table scope) = []
entry_joins (entry.Row r) = []
entry_joins (entry.Rule scope r) = []
entry_joins (entry.Join m n) = record { left = m; right = n } ∷ []
entry_joins (entry.Bar l h) = []

abbrev pub entry_bars : Entry → List Pair
entry_bars entry.Names = []
entry_bars (entry.Table scope) = []
entry_bars (entry.Row r) = []
entry_bars (entry.Rule scope r) = []
entry_bars (entry.Join m n) = []
entry_bars (entry.Bar l h) = record { lock = l; holder = h } ∷ []

-- the joins that are noted
abbrev pub noted_joins : Joins → List Join
noted_joins j = take j.len j.at

-- A draft holds these scopes, rules, joins and bars, in a case with so many locks and holders whose row list is this.
pub record Holds (L H : ℕ) (rows : List RowRecord) (xs : List (List ℕ)) (rs : List Ruling) (js : List Join) (ps : List Pair) (d : Draft) : Type 0 where
  pub lent : d.written.rows.now ≡ rows
  pub written_so : BookOf (written d.written) L H xs (listed rows)
  pub rules_so : BookOf (by_rules d.rules) L H (map (λ r. r.scope) rs) (ruled_by H rs)
  pub joins_so : noted_joins d.joins ≡ js
  pub bars_so : bar_at d.bars.bars ≡ barred_in_turn (λ lock holder. false) ps

-- there is room for an entry, and its scope fits
abbrev pub RoomFor : Draft → Entry → Type 0
RoomFor d entry.Names = Unit {0}
RoomFor d (entry.Table scope) = ((written d.written).tables < 64) × Fit (written d.written).locks (named scope)
RoomFor d (entry.Row r) = Unit {0}
RoomFor d (entry.Rule scope r) = ((by_rules d.rules).tables < 64) × Fit (by_rules d.rules).locks (named scope) × (length (named scope) ≡ 2)
RoomFor d (entry.Join m n) = d.joins.len < 63
RoomFor d (entry.Bar l h) = Unit {0}

-- one draft is another with an entry added
abbrev pub Extends : Draft → Draft → Entry → Type 0
Extends d f e = (L H : ℕ) (rows : List RowRecord) (xs : List (List ℕ)) (rs : List Ruling) (js : List Join) (ps : List Pair) → Holds L H rows xs rs js ps d → Holds L H rows (xs ++ entry_scopes e) (rs ++ entry_rules e) (js ++ entry_joins e) (ps ++ entry_bars e) f
