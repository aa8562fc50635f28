-- The list of a set's numbers, as a loop makes it.
use Rattle.std.proofs.Common.{◌≡◌, ℕ, ◌+◌, ◌<◌, ◌≤◌, true, false, List, [], ◌∷◌, ◌++◌, sym, refl, subst, add-one, arith}
use Rattle.aggregation.specs.Sets.{Set, size, listed, Rising, Below}
use Rattle.aggregation.proofs.Listed.{listed_below, listed_rising, size_up}
use Rattle.order.proofs.Masked.{size_more}

-- none below 0, and the next number in it or not
pub listed_none : (s : Set) → listed 0 s ≡ []
unfolding listed
listed_none s = refl

pub listed_with : (n : ℕ) (s : Set) → s n ≡ true → listed (n + 1) s ≡ listed n s ++ n ∷ []
unfolding listed
listed_with n s h = rw (add-one, h) refl

pub listed_without : (n : ℕ) (s : Set) → s n ≡ false → listed (n + 1) s ≡ listed n s
unfolding listed
listed_without n s h = rw (add-one, h) refl

-- there is room for one more
pub room : (n k : ℕ) (s : Set) (c : ℕ) → k < n → s k ≡ true → size n s ≤ c → size k s < c
room n k s c h m l = let a = size_more k s in let b = size_up (k + 1) n s (omega arith) in let d : size (k + 1) s ≡ size k s + 1 = rw m at a in omega arith

-- what equals such a list is below the bound, and rises
pub listing_below : (xs : List ℕ) (k n : ℕ) (s : Set) → xs ≡ listed k s → k ≤ n → Below n xs
listing_below xs k n s e h = subst (Below n) (sym e) (λ i l. let z = listed_below k s i l in omega arith)

pub listing_rising : (xs : List ℕ) (k : ℕ) (s : Set) → xs ≡ listed k s → Rising xs
listing_rising xs k s e = subst Rising (sym e) (listed_rising k s)
