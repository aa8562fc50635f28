-- Row numbers and digits are inverse.
use Rattle.std.proofs.Common.{◌≡◌, ℕ, zero, suc, ◌+◌, ◌-◌, ◌*◌, ◌/◌, ◌%◌, ◌^◌, ◌<◌, ◌≤◌, List, [], ◌∷◌, length, sym, refl, ap, ◌∙◌, mul_comm, pow-suc, mul-div_cancel, arith}
use native.Mathlib.Nat.{pow-zero, one-le-pow, pow-le-pow_left, pow-le-pow_right}
use Rattle.std.proofs.lemmas.Nat.{mul-add-lt, div-mul-add, mod-mul-add, div-add-mod', div_below, mod_below}
use Rattle.book.specs.Lists.{Below}
use Rattle.book.specs.Rows.{row_number, digits, RowsNumbered}

-- a power of a holder count, at most sixteen, with an exponent of at most six
pub pow_small : (H n : ℕ) → 0 < H → H ≤ 16 → n ≤ 6 → H ^ n ≤ 16777216
pow_small H n p h k = let a : H ^ n ≤ H ^ 6 = pow-le-pow_right p k in let b : H ^ 6 ≤ 16 ^ 6 = pow-le-pow_left h 6 in omega arith

-- the place value of the next digit
pub place_more : (H n i place : ℕ) → 0 < H → i < n → place ≡ H ^ (n - i) → place / H ≡ H ^ (n - (i + 1))
place_more H n i place p h e =
    let next : n - i ≡ suc (n - (i + 1)) = omega arith in
    ap (λ x. x / H) (e ∙ ap (λ k. H ^ k) next ∙ pow-suc H (n - (i + 1))) ∙ mul-div_cancel (H ^ (n - (i + 1))) p

pub place_some : (H n i place : ℕ) → 0 < H → i < n → place ≡ H ^ (n - i) → 0 < place / H
place_some H n i place p h e = rw (place_more H n i place p h e) (one-le-pow (n - (i + 1)) H p)

below_tail : (H d : ℕ) (ds : List ℕ) → Below H (d ∷ ds) → Below H ds
below_tail H d ds b k h = b (suc k) (omega arith)

pub below_cons : (H d : ℕ) (ds : List ℕ) → d < H → Below H ds → Below H (d ∷ ds)
below_cons H d ds h b zero k = h
below_cons H d ds h b (suc n) k = b n (omega arith)

small : (H : ℕ) (ds : List ℕ) → Below H ds → row_number H ds < H ^ length ds
unfolding row_number
small H [] b = omega (arith, pow-zero H)
small H (d ∷ ds) b = rw (pow-suc H (length ds)) (mul-add-lt d (H ^ length ds) (row_number H ds) H (b 0 (omega arith)) (small H ds (below_tail H d ds b)))

read : (H : ℕ) (ds : List ℕ) → Below H ds → digits H (length ds) (row_number H ds) ≡ ds
unfolding row_number digits
read H [] b = refl
read H (d ∷ ds) b =
    let r = small H ds (below_tail H d ds b) in
    ap (λ x. x ∷ digits H (length ds) (row_number H (d ∷ ds) % H ^ length ds)) (div-mul-add d (H ^ length ds) (row_number H ds) r)
    ∙ ap (λ x. d ∷ digits H (length ds) x) (mod-mul-add d (H ^ length ds) (row_number H ds) r)
    ∙ ap (λ xs. d ∷ xs) (read H ds (below_tail H d ds b))

wide : (H w row : ℕ) → length (digits H w row) ≡ w
unfolding digits
wide H zero row = refl
wide H (suc w) row = ap suc (wide H w (row % H ^ w))

held : (H : ℕ) → 0 < H → (w row : ℕ) → row < H ^ w → Below H (digits H w row)
unfolding digits
held H p zero row h k n = absurd (omega arith)
held H p (suc w) row h k n =
    let some : 0 < H ^ w = one-le-pow w H p in
    let first : row / H ^ w < H = div_below row (H ^ w) H some (rw (sym (pow-suc H w ∙ mul_comm (H ^ w) H)) h) in
    below_cons H (row / H ^ w) (digits H w (row % H ^ w)) first (held H p w (row % H ^ w) (mod_below row (H ^ w) some)) k n

back : (H : ℕ) → 0 < H → (w row : ℕ) → row < H ^ w → row_number H (digits H w row) ≡ row
unfolding row_number digits
back H p zero row h = omega (arith, pow-zero H)
back H p (suc w) row h =
    let some : 0 < H ^ w = one-le-pow w H p in
    ap (λ n. row / H ^ w * H ^ n + row_number H (digits H w (row % H ^ w))) (wide H w (row % H ^ w))
    ∙ ap (λ n. row / H ^ w * H ^ w + n) (back H p w (row % H ^ w) (mod_below row (H ^ w) some))
    ∙ div-add-mod' row (H ^ w)

pub rows_numbered : RowsNumbered
rows_numbered H p = record { small = small H; read = read H; wide = wide H; holders = held H p; back = back H p }
