-- Where bytes are split: at the first of a mark.
use Rattle.std.specs.Prelude.{◌≡◌, ℕ, List, ◌∷◌, ◌++◌, ◌≢◌}
use Rattle.std.specs.List.{All}
use Rattle.lines.specs.declared.cut.Mark.{Mark}
use Rattle.lines.specs.declared.cut.Mark.TheVariants.{Equals, Comma, Colon, End}

-- the byte of each mark
abbrev pub mark_byte : Mark → ℕ
mark_byte Equals = 61
mark_byte Comma = 44
mark_byte Colon = 58
mark_byte End = 10

-- the bytes have no c
abbrev pub Lacks : ℕ → List ℕ → Type 0
Lacks c bs = All (λ b. b ≢ c) bs

-- front and back are what stands around the first c
pub record Cut (c : ℕ) (bytes front back : List ℕ) : Type 0 where
  pub whole : bytes ≡ front ++ (c ∷ back)
  pub first : Lacks c front
