-- A name, a list of names, and the spelling of such a list.
use Rattle.std.specs.Prelude.{◌≡◌, ℕ, ◌<◌, ◌≤◌, Bool, true, false, ◌||◌, List, [], length, take, get_or, ◌==◌, ◌≢◌, slice_index_or}
use Rattle.std.specs.Char.{is_ascii_digit, is_ascii_alphabetic}
use Rattle.std.specs.List.{All, AllByRecursion, join_with_byte, slice_split}

-- a letter, a digit, `-` or `_`
abbrev pub name_byte : ℕ → Bool
name_byte b = is_ascii_alphabetic b || (is_ascii_digit b || (b == 45 || b == 95))

abbrev pub NameBytes : List ℕ → Type 0
NameBytes bs = All (λ b. name_byte b ≡ true) bs

-- a name: 1 to 24 such bytes
pub record Name (bs : List ℕ) : Type 0 where
  pub some : 0 < length bs
  pub short : length bs ≤ 24
  pub bytes : NameBytes bs

-- names with commas between
abbrev pub joined : List (List ℕ) → List ℕ
joined ns = join_with_byte 44 ns

-- the pieces between the commas
abbrev pub pieces : List ℕ → List (List ℕ)
pieces bs = slice_split (λ b. b == 44) bs

-- the pieces between the commas are names
abbrev pub AllNamed : List ℕ → Type 0
AllNamed bs = AllByRecursion Name (pieces bs)

-- the bytes before place i can be of a name, and the one there cannot
pub record NameEnds (bs : List ℕ) (i : ℕ) : Type 0 where
  pub within : i < length bs
  pub here : name_byte (get_or bs i 0) ≡ false
  pub front : NameBytes (take i bs)

-- the name is in the list for the first time at place i
pub record FirstAt (ns : List (List ℕ)) (name : List ℕ) (i : ℕ) : Type 0 where
  pub within : i < length ns
  pub here : get_or ns i [] ≡ name
  pub before : (k : ℕ) → k < i → slice_index_or ns k [] ≢ name

-- the name is not in the list
abbrev pub Absent : List (List ℕ) → List ℕ → Type 0
Absent ns name = (k : ℕ) → k < length ns → slice_index_or ns k [] ≢ name
