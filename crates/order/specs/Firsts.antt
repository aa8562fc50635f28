-- The first of several that is there.
use Rattle.std.specs.Prelude.{ℕ, zero, suc, Some, None, Option}

-- the first, or else the second
abbrev pub or_else : {A : Type 0} → Option A → Option A → Option A
or_else None b = b
or_else (Some a) b = Some a

-- the first of g 0, .. , g (n - 1) that is there
unfoldable pub first : {A : Type 0} → (ℕ → Option A) → ℕ → Option A
first g zero = None
first g (suc n) = or_else (first g n) (g n)
