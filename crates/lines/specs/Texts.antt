-- A text is lines, each with its end byte.
use Rattle.std.specs.Prelude.{◌≡◌, ℕ, List, [], ◌∷◌, ◌++◌}
use Rattle.std.specs.List.{AllByRecursion}
use Rattle.book.specs.declared.refusal.Refusal.{Refusal}
use Rattle.book.specs.declared.refusal.Layer.TheVariants.{Line}
use Rattle.book.specs.declared.refusal.LineCause.TheVariants.{NoForm}
use Rattle.lines.specs.Told.{Told, spell, Good}

-- the bytes of a text of these lines
abbrev pub spell_all : List Told → List ℕ
spell_all [] = []
spell_all (t ∷ ts) = spell t ++ (10 ∷ spell_all ts)

-- the text begins with a line of this value, and goes on with the rest
pub record Begins (t : Told) (text rest : List ℕ) : Type 0 where
  pub good : Good t
  pub is : text ≡ spell t ++ (10 ∷ rest)

-- no line begins the text
abbrev pub NoLine : List ℕ → Type 0
NoLine text = (t : Told) (rest : List ℕ) → Begins t text rest → ⊥

-- the refusal of a line that has none of the eight forms, or lacks its end byte
abbrev pub no_form : ℕ → Refusal
no_form place = record { layer = Line place NoForm }

-- each value has one spelling, and each spelling one value
abbrev pub SpellingIsOneToOne : Type 0
SpellingIsOneToOne = (t u : Told) → Good t → Good u → spell t ≡ spell u → t ≡ u

-- a text is cut into lines in one way
abbrev pub TextHasOneReading : Type 0
TextHasOneReading = (ts us : List Told) → AllByRecursion Good ts → AllByRecursion Good us → spell_all ts ≡ spell_all us → ts ≡ us
