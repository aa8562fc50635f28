-- What a rule book means.
use Rattle.std.specs.Prelude.{◌≡◌, ℕ, ◌/◌, ◌%◌, ◌<◌, Bool, cond, not, List, [], ◌∷◌, map, length, Some, None, Option, ◌==◌, slice_index_or}
use Rattle.weighing.specs.Charges.{Charge}
use Rattle.book.specs.Books.{Meaning}
use Rattle.book.specs.Rows.{row_number}
use Rattle.filing.specs.declared.rule.RuleForm.{RuleForm}
use Rattle.filing.specs.declared.rule.RuleForm.TheVariants.{Differ, Same}
use Rattle.filing.specs.declared.rule.Rule.{Rule}
use Rattle.filing.specs.declared.rule.RuleBook.{RuleBook}
use Rattle.book.specs.BookShapes.{over_shape}

-- whether a form permits two holders
abbrev pub permits : RuleForm → ℕ → ℕ → Bool
permits Differ a b = not (a == b)
permits Same a b = a == b

-- what a rule charges a row of two holders
abbrev pub ruled : Rule → ℕ → ℕ → Option Charge
ruled r H row = cond (permits r.form (row / H) (row % H)) (Some r.charge) None

-- the rule at a place, as what it charges the rows
abbrev pub rule_at : List Rule → ℕ → ℕ → ℕ → Option Charge
rule_at rules t = slice_index_or (map ruled rules) t (λ H row. None)

abbrev pub by_rules : RuleBook → Meaning
by_rules b = over_shape b.shape (λ t row. rule_at b.rules t b.shape.holders row)

-- two holders are as a form wants them
abbrev pub Permits : RuleForm → ℕ → ℕ → Type 0
Permits Differ a b = a ≡ b → ⊥
Permits Same a b = a ≡ b

-- a rule's table is over two locks; the row of two holders is permitted exactly when they are as its form wants
pub record RuledRow (m : Meaning) (t : ℕ) (r : Rule) (a b : ℕ) : Type 0 where
  pub pair : length (m.scope t) ≡ 2
  pub permitted : Permits r.form a b → m.charge t (row_number m.holders (a ∷ b ∷ [])) ≡ Some r.charge
  pub absent : (Permits r.form a b → ⊥) → m.charge t (row_number m.holders (a ∷ b ∷ [])) ≡ None

-- of each rule that stands at a table's place
abbrev pub RowsRuled : Type 0
RowsRuled = (q : RuleBook) (t : ℕ) (r : Rule) → t < (by_rules q).tables → t < length q.rules → r ≡ slice_index_or q.rules t r
    → (a b : ℕ) → a < (by_rules q).holders → b < (by_rules q).holders → RuledRow (by_rules q) t r a b
