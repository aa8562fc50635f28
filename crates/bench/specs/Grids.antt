-- What a book by formula means, and that it keeps to the ranges of a book.
use Rattle.std.specs.Prelude.{ℕ, zero, suc, ◌+◌, ◌-◌, ◌*◌, ◌/◌, ◌%◌, ◌^◌, ◌<◌, ◌≤◌, Bool, cond, ◌&&◌, List, [], ◌∷◌, length, None, nat_lt, slice_index_or}
use Rattle.std.proofs.Common.{arith}
use Rattle.std.proofs.lemmas.Bool.{ltb-true, ltb-false, le-ltb, and_left, and_right, cond-false, cond_both}
use Rattle.book.specs.Lists.{Rising, Below}
use Rattle.book.specs.Books.{Meaning, Ranged}
use Rattle.bench.specs.declared.grid.Kind.{Kind}
use Rattle.bench.specs.declared.grid.Kind.TheVariants.{Path, Star, Ring, Wide}
use Rattle.bench.specs.declared.grid.Grid.{Grid}

-- how many tables there are over so many locks
abbrev pub tables_of : Kind → ℕ → ℕ
tables_of Path locks = locks - 1
tables_of Star locks = locks - 1
tables_of Ring locks = locks
tables_of Wide locks = locks / 2 - 1

-- the locks of a table
abbrev pub scope_of : Kind → ℕ → ℕ → List ℕ
scope_of Path locks t = t ∷ (t + 1) ∷ []
scope_of Star locks t = 0 ∷ (t + 1) ∷ []
scope_of Ring locks t = cond (nat_lt (t + 1) locks) (t ∷ (t + 1) ∷ []) (0 ∷ (locks - 1) ∷ [])
scope_of Wide locks t = (2 * t) ∷ (2 * t + 1) ∷ (2 * t + 2) ∷ (2 * t + 3) ∷ []

-- the locks of a table; none beyond the last
abbrev pub scope_at : Kind → ℕ → ℕ → List ℕ
scope_at kind locks t = cond (nat_lt t (tables_of kind locks)) (scope_of kind locks t) []

-- whether there is such a table and it has such a row
abbrev pub has_row : Grid → ℕ → ℕ → Bool
has_row g t row = nat_lt t (tables_of g.kind g.locks) && nat_lt row (g.holders ^ length (scope_at g.kind g.locks t))

-- rows are charged by the pattern in turn, one place later for each table
abbrev pub by_formula : Grid → Meaning
by_formula g = record {
  locks = g.locks;
  holders = g.holders;
  tables = tables_of g.kind g.locks;
  scope = scope_at g.kind g.locks;
  charge = λ t row. cond (has_row g t row) (slice_index_or g.pattern ((row % 35 + t % 35) % 35) None) None;
}

-- locks that can be a table's in a book with so many locks
pub record Fit (locks : ℕ) (xs : List ℕ) : Type 0 where
  pub some : 0 < length xs
  pub short : length xs ≤ 4
  pub rising : Rising xs
  pub below : Below locks xs

pub pair_rises : (a b : ℕ) → a < b → Rising (a ∷ b ∷ [])
pair_rises a b h zero k = h
pair_rises a b h (suc n) k = absurd (omega arith)

pub pair_below : (n a b : ℕ) → a < n → b < n → Below n (a ∷ b ∷ [])
pair_below n a b h i zero k = h
pair_below n a b h i (suc zero) k = i
pair_below n a b h i (suc (suc m)) k = absurd (omega arith)

pub four_rises : (a : ℕ) → Rising (a ∷ (a + 1) ∷ (a + 2) ∷ (a + 3) ∷ [])
four_rises a zero k = omega arith
four_rises a (suc zero) k = omega arith
four_rises a (suc (suc zero)) k = omega arith
four_rises a (suc (suc (suc m))) k = absurd (omega arith)

pub four_below : (n a : ℕ) → a + 3 < n → Below n (a ∷ (a + 1) ∷ (a + 2) ∷ (a + 3) ∷ [])
four_below n a h zero k = omega arith
four_below n a h (suc zero) k = omega arith
four_below n a h (suc (suc zero)) k = omega arith
four_below n a h (suc (suc (suc zero))) k = omega arith
four_below n a h (suc (suc (suc (suc m)))) k = absurd (omega arith)

pair_fits : (n a b : ℕ) → a < b → b < n → Fit n (a ∷ b ∷ [])
pair_fits n a b h i = record { some = omega arith; short = omega arith; rising = pair_rises a b h; below = pair_below n a b (omega arith) i }

-- each table's locks are the book's, rising
fits : (kind : Kind) (n t : ℕ) → 2 ≤ n → t < tables_of kind n → Fit n (scope_of kind n t)
fits Path n t h i = pair_fits n t (t + 1) (omega arith) (omega arith)
fits Star n t h i = pair_fits n 0 (t + 1) (omega arith) (omega arith)
fits Ring n t h i = cond_both (nat_lt (t + 1) n) _ _ (Fit n) (λ e. pair_fits n t (t + 1) (omega arith) (ltb-true _ _ e)) (λ e. pair_fits n 0 (n - 1) (omega arith) (omega arith))
fits Wide n t h i = record { some = omega arith; short = omega arith; rising = four_rises (2 * t); below = four_below n (2 * t) (omega arith) }

-- a fact of each table's locks and of no locks is one of each number's
each : (kind : Kind) (n t : ℕ) (P : List ℕ → Type 0) → 2 ≤ n → (Fit n (scope_of kind n t) → P (scope_of kind n t)) → P [] → P (scope_at kind n t)
each kind n t P h f p = cond_both (nat_lt t (tables_of kind n)) _ _ P (λ e. f (fits kind n t h (ltb-true _ _ e))) (λ _. p)

few : (kind : Kind) (n : ℕ) → n ≤ 64 → tables_of kind n ≤ 64
few Path n h = omega arith
few Star n h = omega arith
few Ring n h = h
few Wide n h = omega arith

pub grid_ranged : (g : Grid) → Ranged (by_formula g)
grid_ranged g = record {
  some_lock = let h = g.some_locks in omega arith;
  few_locks = g.few_locks;
  some_holder = let h = g.some_holders in omega arith;
  few_holders = g.few_holders;
  few_tables = few g.kind g.locks g.few_locks;
  some_scope = λ t h. cond_both (nat_lt t (tables_of g.kind g.locks)) _ _ (λ xs. 0 < length xs) (λ e. (fits g.kind g.locks t g.some_locks h).some) (λ e. let k = ltb-false _ _ e in absurd (omega arith));
  short_scope = λ t. each g.kind g.locks t (λ xs. length xs ≤ 4) g.some_locks (λ f. f.short) (omega arith);
  rising = λ t. each g.kind g.locks t Rising g.some_locks (λ f. f.rising) (λ k h. absurd (omega arith));
  below = λ t. each g.kind g.locks t (Below g.locks) g.some_locks (λ f. f.below) (λ k h. absurd (omega arith));
  no_scope = λ t h. cond-false _ _ _ (le-ltb t (tables_of g.kind g.locks) h);
  no_table = λ t row h. cond-false _ _ None (and_left (nat_lt t (tables_of g.kind g.locks)) _ (le-ltb t (tables_of g.kind g.locks) h));
  no_row = λ t row h. cond-false _ _ None (and_right (nat_lt t (tables_of g.kind g.locks)) _ (le-ltb row (g.holders ^ length (scope_at g.kind g.locks t)) h));
}
