-- Sets of numbers (of locks, of tables), as tests.
use Rattle.std.specs.Prelude.{ℕ, zero, suc, ◌+◌, ◌<◌, Bool, true, false, cond, not, ◌&&◌, ◌||◌, List, [], ◌∷◌, ◌++◌, length, ◌==◌, slice_index}

abbrev pub Set : Type 0
Set = ℕ → Bool

-- in one or the other
abbrev pub ◌∪◌ : Set → Set → Set
m ∪ n = λ l. m l || n l

-- in both
abbrev pub ◌∩◌ : Set → Set → Set
m ∩ n = λ l. m l && n l

-- in the first and not in the second
abbrev pub ◌∖◌ : Set → Set → Set
m ∖ n = λ l. m l && not (n l)

-- not in it
abbrev pub un : Set → Set
un m = λ l. not (m l)

infixl 30 ◌∪◌
infixl 35 ◌∩◌
infixl 35 ◌∖◌
-- all numbers
abbrev pub all : Set
all = λ l. true

-- the numbers of a list
unfoldable pub among : List ℕ → Set
among [] l = false
among (x ∷ xs) l = l == x || among xs l

-- how many numbers below n are in s
unfoldable pub size : ℕ → Set → ℕ
size zero s = 0
size (suc n) s = size n s + cond (s n) 1 0

-- the numbers below n that are in s, rising
unfoldable pub listed : ℕ → Set → List ℕ
listed zero s = []
listed (suc n) s = cond (s n) (listed n s ++ n ∷ []) (listed n s)

-- each number of a list is below the next
abbrev pub Rising : List ℕ → Type 0
Rising xs = (k : ℕ) → k + 1 < length xs → slice_index xs k < slice_index xs (k + 1)

-- each number of a list is below n
abbrev pub Below : ℕ → List ℕ → Type 0
Below n xs = (k : ℕ) → k < length xs → slice_index xs k < n
