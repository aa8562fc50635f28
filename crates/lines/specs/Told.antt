-- What a line says, and its one spelling.
use Rattle.std.specs.Prelude.{◌≡◌, ℕ, ◌≤◌, List, [], ◌∷◌, ◌++◌, length, codes, decimal, Some, None, Option}
use Rattle.std.specs.Borrow.{Bor}
use Rattle.std.specs.List.{AllByRecursion}
use Rattle.lines.specs.Names.{Name, joined, pieces}
use Rattle.lines.specs.declared.kind.Kind.{Kind}
use Rattle.lines.specs.declared.kind.Kind.TheVariants as kind
use Rattle.lines.specs.declared.names.Names.{Names}
use Rattle.lines.specs.declared.names.NamesIter.{NamesIter}
use Rattle.lines.specs.declared.line.Line.{Line}
use Rattle.lines.specs.declared.line.Line.TheVariants as line

-- a line's value: names are bytes, charges and nodes are numbers
pub data Told : Type 0 where
  locks : (ns : List (List ℕ)) → Told
  holders : (ns : List (List ℕ)) → Told
  table : (ns : List (List ℕ)) → Told
  row : (ns : List (List ℕ)) (n : ℕ) → Told
  differ : (ns : List (List ℕ)) (n : ℕ) → Told
  same : (ns : List (List ℕ)) (n : ℕ) → Told
  join : (m n : ℕ) → Told
  bar : (lock holder : List ℕ) → Told

abbrev pub kind_of : Told → Kind
kind_of (locks ns) = kind.Locks
kind_of (holders ns) = kind.Holders
kind_of (table ns) = kind.Table
kind_of (row ns n) = kind.Row
kind_of (differ ns n) = kind.Differ
kind_of (same ns n) = kind.Same
kind_of (join m n) = kind.Join
kind_of (bar l h) = kind.Bar

-- what a line of each kind begins with
abbrev pub key : Kind → List ℕ
key kind.Locks = codes "locks="
key kind.Holders = codes "holders="
key kind.Table = codes "table="
key kind.Row = codes "row="
key kind.Differ = codes "differ="
key kind.Same = codes "same="
key kind.Join = codes "join="
key kind.Bar = codes "bar="

-- names, a colon and a number
abbrev pub charged : List (List ℕ) → ℕ → List ℕ
charged ns n = joined ns ++ (58 ∷ decimal n)

-- what follows the key
abbrev pub body : Told → List ℕ
body (locks ns) = joined ns
body (holders ns) = joined ns
body (table ns) = joined ns
body (row ns n) = charged ns n
body (differ ns n) = charged ns n
body (same ns n) = charged ns n
body (join m n) = decimal m ++ (44 ∷ decimal n)
body (bar l h) = l ++ (44 ∷ h)

-- the line's bytes, without the end byte
abbrev pub spell : Told → List ℕ
spell t = key (kind_of t) ++ body t

-- from least to most names
pub record Named (least most : ℕ) (ns : List (List ℕ)) : Type 0 where
  pub names : AllByRecursion Name ns
  pub least_so : least ≤ length ns
  pub most_so : length ns ≤ most

-- at least one name
pub record SomeNamed (ns : List (List ℕ)) : Type 0 where
  pub names : AllByRecursion Name ns
  pub some : 1 ≤ length ns

-- the values that a line can have
abbrev pub Good : Told → Type 0
Good (locks ns) = SomeNamed ns
Good (holders ns) = SomeNamed ns
Good (table ns) = Named 1 4 ns
Good (row ns n) = Named 1 4 ns × (n ≤ 1000000)
Good (differ ns n) = Named 2 2 ns × (n ≤ 1000000)
Good (same ns n) = Named 2 2 ns × (n ≤ 1000000)
Good (join m n) = (m ≤ 1000000) × (n ≤ 1000000)
Good (bar l h) = Name l × Name h

-- the bytes are a line of this value
pub record Reads (t : Told) (bytes : List ℕ) : Type 0 where
  pub good : Good t
  pub is : bytes ≡ spell t

-- the names of a borrowed list
abbrev pub held : Names → List (List ℕ)
held n = pieces n.bytes.now

-- the names that the rest of the bytes holds, if there is a rest
abbrev pub held_by_rest : Option (Bor (List ℕ)) → List (List ℕ)
held_by_rest None = []
held_by_rest (Some bytes) = pieces bytes.now

-- the names that an iterator has still to give
abbrev pub left : NamesIter → List (List ℕ)
left it = held_by_rest it.rest

-- what a borrowed line says
abbrev pub meant : Line → Told
meant (line.Locks p ns) = locks (held ns)
meant (line.Holders p ns) = holders (held ns)
meant (line.Table p ns) = table (held ns)
meant (line.Row p ns c) = row (held ns) c
meant (line.Differ p ns c) = differ (held ns) c
meant (line.Same p ns c) = same (held ns) c
meant (line.Join p m n) = join m n
meant (line.Bar p l h) = bar l.now h.now

-- where it stands: the number of the line
abbrev pub placed : Line → ℕ
placed (line.Locks p ns) = p
placed (line.Holders p ns) = p
placed (line.Table p ns) = p
placed (line.Row p ns c) = p
placed (line.Differ p ns c) = p
placed (line.Same p ns c) = p
placed (line.Join p m n) = p
placed (line.Bar p l h) = p
