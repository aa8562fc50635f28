-- Names of a line by their numbers in a list.
use Rattle.std.specs.Prelude.{◌≡◌, ℕ, ◌<◌, ◌≤◌, List, [], length, Some, None, Option, ◌≢◌, slice_index_or}
use Rattle.book.specs.Lists.{Below}
use Rattle.std.specs.List.{AllByRecursion}
use Rattle.arrayvec.specs.ArrayVec.{ArrayVec}
use Rattle.lines.specs.Names.{Name}
use Rattle.lines.specs.Told.{held}
use Rattle.lines.specs.declared.names.Names.{Names}
use Rattle.filing.specs.Standing.{place_of, places}

-- the names of a list that may not have been read yet
abbrev pub names_of : Option Names → List (List ℕ)
names_of None = []
names_of (Some n) = held n

-- the place of a name that is in the list
pub record Found (list : List (List ℕ)) (name : List ℕ) (i : ℕ) : Type 0 where
  pub is : i ≡ place_of list name
  pub within : i < length list

-- the name stands in the list before place i
pub record StandsBefore (ns : List (List ℕ)) (name : List ℕ) (i : ℕ) : Type 0 where
  pub one : ℕ
  pub apart : one < i
  pub within : one < length ns
  pub equal : slice_index_or ns one [] ≡ name

-- they are the numbers of the names, which are all in the list
pub record Noted (list ns : List (List ℕ)) (p : ArrayVec ℕ) : Type 0 where
  pub is : p.items ≡ places list ns
  pub below : Below (length list) p.items

-- at most so many names, each well formed, none twice
pub record Listing (most : ℕ) (ns : List (List ℕ)) : Type 0 where
  pub few : length ns ≤ most
  pub formed : AllByRecursion Name ns
  pub apart : (j k : ℕ) → j < k → k < length ns → slice_index_or ns j [] ≢ slice_index_or ns k []
