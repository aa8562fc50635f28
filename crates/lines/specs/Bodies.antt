-- What follows a key, and when nothing that a line of that kind can say is spelled so.
use Rattle.std.specs.Prelude.{◌≡◌, ℕ, ◌≤◌, List, ◌∷◌, ◌++◌, decimal, ◌≢◌}
use Rattle.lines.specs.Names.{Name, joined}
use Rattle.lines.specs.Told.{kind_of, body, charged, Good, SomeNamed, Named, meant, placed}
use Rattle.lines.specs.declared.kind.Kind.{Kind}
use Rattle.lines.specs.declared.kind.Kind.TheVariants as kind
use Rattle.lines.specs.declared.line.Line.{Line}

-- no names spell the bytes
abbrev pub NoNames : List ℕ → Type 0
NoNames bs = (ns : List (List ℕ)) → SomeNamed ns → bs ≢ joined ns

-- not so many names spell the bytes
abbrev pub NoFew : ℕ → ℕ → List ℕ → Type 0
NoFew least most bs = (ns : List (List ℕ)) → Named least most ns → bs ≢ joined ns

-- not so many names with a number spell the bytes
abbrev pub NoCharged : ℕ → ℕ → List ℕ → Type 0
NoCharged least most bs = (ns : List (List ℕ)) (n : ℕ) → Named least most ns × (n ≤ 1000000) → bs ≢ charged ns n

abbrev pub NoNodes : List ℕ → Type 0
NoNodes bs = (m n : ℕ) → (m ≤ 1000000) × (n ≤ 1000000) → bs ≢ decimal m ++ (44 ∷ decimal n)

abbrev pub NoPair : List ℕ → Type 0
NoPair bs = (l h : List ℕ) → Name l × Name h → bs ≢ l ++ (44 ∷ h)

-- no value of the kind has this body
abbrev pub NoBody : Kind → List ℕ → Type 0
NoBody kind.Locks bs = NoNames bs
NoBody kind.Holders bs = NoNames bs
NoBody kind.Table bs = NoFew 1 4 bs
NoBody kind.Row bs = NoCharged 1 4 bs
NoBody kind.Differ bs = NoCharged 2 2 bs
NoBody kind.Same bs = NoCharged 2 2 bs
NoBody kind.Join bs = NoNodes bs
NoBody kind.Bar bs = NoPair bs

-- the line's value is of the kind and has this body, and it stands at this place
pub record HasBody (k : Kind) (bs : List ℕ) (place : ℕ) (l : Line) : Type 0 where
  pub kind : kind_of (meant l) ≡ k
  pub good : Good (meant l)
  pub is : bs ≡ body (meant l)
  pub at : placed l ≡ place
