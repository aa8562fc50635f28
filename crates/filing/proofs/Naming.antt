-- The first place of a name.
use Rattle.std.proofs.Common.{◌≡◌, ℕ, zero, suc, ◌+◌, ◌*◌, ◌^◌, ◌<◌, ◌≤◌, Bool, true, false, cond, ◌||◌, ◌&&◌, eqb, ltb, List, [], ◌∷◌, ◌++◌, length, get_or, take, Some, None, Option, sym, refl, ap, ◌∙◌, subst, mul_assoc, add-mul, mul-le-mul, pow-suc, zero-mul, mul-one, add-one, arith, Less, Equal, Greater, length-append, length-take, get_or-take, MatchOption, MatchResult}
use native.Mathlib.Nat.{pow-zero, pow-le-pow_left, pow-le-pow_right}
use Rattle.std.specs.Str.{bytes_eq}
use Rattle.std.proofs.lemmas.Slice.Eq.{bytes_eq-Decides}
use Rattle.std.proofs.lemmas.List.{take_more, map-append, get_or-map, length-map}
use Rattle.std.proofs.lemmas.List.Splits.{length-slice_split}
use Rattle.std.proofs.lemmas.List.Sums.{count_by-le-length}
use Rattle.arrayvec.specs.ArrayVec.{ArrayVec}
use Rattle.weighing.specs.Tests.{Tells}
use Rattle.std.proofs.lemmas.Bool.Decides.{nat_tests}
use Rattle.std.specs.Cmp.{Some-then}
use Rattle.std.specs.Ordering.{is_le, is_some_and, ordering_then, partial_ordering_then, nat_cmp}
use Rattle.std.specs.Option.{ok_or}
use Rattle.book.specs.Lists.{Rising, Below}
use Rattle.book.specs.Scopes.{named}
use Rattle.book.specs.declared.scope.Scope.{Scope}
use Rattle.book.specs.declared.refusal.RecordCause.TheVariants.{NotRising}
use Rattle.filing.specs.Readers.{Scoped, Unscoped}
use Rattle.book.specs.Rows.{row_number}
use Rattle.book.proofs.Numbers.{rows_numbered}
use Rattle.lines.specs.Names.{FirstAt, Absent, pieces}
use Rattle.filing.specs.Standing.{Standing, place_of, places}
use Rattle.filing.specs.Judging.{Unlisted, NotAbove}
use Rattle.filing.specs.Resolving.{Found, Noted}

same_not : (m n : List ℕ) → (m ≡ n → ⊥) → bytes_eq m n ≡ false
same_not m n h = elim (bytes_eq m n) as (λ v. bytes_eq m n ≡ v → v ≡ false) [ true ↦ λ e. absurd (h ((bytes_eq-Decides m n).0 e)) | false ↦ λ e. refl ] refl

pub first_place : (ns : List (List ℕ)) (name : List ℕ) (i : ℕ) → FirstAt ns name i → i ≡ place_of ns name
unfolding place_of
first_place [] name i f = absurd (omega (arith, f.within))
first_place (n ∷ ns) name zero f = rw ((bytes_eq-Decides n name).1 f.here)
first_place (n ∷ ns) name (suc i) f =
    rw (same_not n name (f.before 0 (omega arith)))
    (omega (arith, first_place ns name i (record { within = omega (arith, f.within); here = f.here; before = λ k l. f.before (suc k) (omega arith) })))

pub found_first : (ns : List (List ℕ)) (name : List ℕ) (i : ℕ) → FirstAt ns name i → Found ns name i
found_first ns name i f = record { is = first_place ns name i f; within = f.within }

pub option_weaker : {A : Type 0} (o : Option A) {P P' : Type 0} {Q Q' : A → Type 0} → MatchOption o P Q → (P → P') → ((x : A) → Q x → Q' x) → MatchOption o P' Q'
option_weaker (Some x) h f g = g x h
option_weaker None h f g = f h

pub below_push : (n : ℕ) (xs : List ℕ) (x : ℕ) → Below n xs → x < n → Below n (xs ++ (x ∷ []))
below_push n [] x h l k in' = elim k as (λ k. get_or (x ∷ []) k 0 < n) [ zero ↦ l | suc j ↦ omega arith ]
below_push n (y ∷ xs) x h l zero in' = h 0 (omega arith)
below_push n (y ∷ xs) x h l (suc k) in' = below_push n xs x (λ j lt. h (suc j) (omega arith)) l k (omega arith)

pub places_more : (list ns : List (List ℕ)) (i p : ℕ) → i < length ns → p ≡ place_of list (get_or ns i []) → places list (take i ns) ++ (p ∷ []) ≡ places list (take (i + 1) ns)
places_more list ns i p l e =
    ap (λ q. places list (take i ns) ++ (q ∷ [])) e ∙ sym (map-append (place_of list) (take i ns) (get_or ns i [] ∷ [])) ∙ ap (places list) (sym (take_more ns i [] l))

-- one holder more at the end is one digit more
pub row_push : (H : ℕ) (ds : List ℕ) (d : ℕ) → row_number H (ds ++ (d ∷ [])) ≡ row_number H ds * H + d
unfolding row_number
row_push H [] d = ap (λ k. d * k + 0) (pow-zero H) ∙ omega (arith, mul-one d, zero-mul H)
row_push H (x ∷ ds) d =
    let p = length-append ds (d ∷ []) in
    let q : length (ds ++ (d ∷ [])) ≡ suc (length ds) = omega arith in
    ap (λ k. x * H ^ k + row_number H (ds ++ (d ∷ []))) q
    ∙ ap (λ k. x * k + row_number H (ds ++ (d ∷ []))) (pow-suc H (length ds))
    ∙ ap (λ k. x * (H ^ length ds * H) + k) (row_push H ds d)
    ∙ omega (arith, mul_assoc x (H ^ length ds) H, add-mul (x * H ^ length ds) (row_number H ds) H)

below_take : (n : ℕ) (xs : List ℕ) (i : ℕ) → Below n xs → i ≤ length xs → Below n (take i xs)
below_take n xs i b h j l = rw (get_or-take i xs j 0 (omega (arith, length-take i xs))) (b j (omega (arith, length-take i xs)))

-- the number so far and the next digit fit
pub row_more : (H : ℕ) (xs : List ℕ) (i row : ℕ) → H ≤ 16 → length xs ≤ 4 → Below H xs → i < length xs → row ≡ row_number H (take i xs) → (row * H ≤ 1048576) × (row * H + get_or xs i 0 ≡ row_number H (take (i + 1) xs)) × (get_or xs i 0 < H)
row_more H xs i row small few b l e =
    let d : get_or xs i 0 < H = b i l in
    let n = (rows_numbered H (omega arith)).small (take i xs) (below_take H xs i b (omega arith)) in
    let p : H ^ length (take i xs) ≤ H ^ 4 = pow-le-pow_right (omega arith) (omega (arith, length-take i xs)) in
    let q : H ^ 4 ≤ 16 ^ 4 = pow-le-pow_left small 4 in
    let m : row ≤ 65536 = omega (arith, e) in
    let r : row * H ≤ 65536 * 16 = mul-le-mul m small in
    (omega arith, ap (λ r. r * H + get_or xs i 0) e ∙ sym (row_push H (take i xs) (get_or xs i 0)) ∙ ap (row_number H) (sym (take_more xs i 0 (omega arith))), d)

-- a place within the list is the name's
pub place_here : (list : List (List ℕ)) (name : List ℕ) → place_of list name < length list → get_or list (place_of list name) [] ≡ name
unfolding place_of
place_here [] name l = absurd (omega arith)
place_here (n ∷ ns) name l =
    elim (bytes_eq n name) as (λ v. bytes_eq n name ≡ v → cond v 0 (place_of ns name + 1) < length (n ∷ ns) → get_or (n ∷ ns) (cond v 0 (place_of ns name + 1)) [] ≡ name) [
      | true ↦ λ e h. (bytes_eq-Decides n name).0 e
      | false ↦ λ e h. rw (add-one (place_of ns name)) (place_here ns name (omega arith))
    ] refl l

-- where all numbers are within the list, each name is in it
pub all_listed : (list ns : List (List ℕ)) → Below (length list) (places list ns) → Unlisted list ns → ⊥
all_listed list ns b u =
    let e : get_or (places list ns) u.place 0 ≡ place_of list (get_or ns u.place []) = get_or-map (place_of list) ns u.place [] 0 u.within in
    let l : place_of list (get_or ns u.place []) < length list = rw e at (b u.place (simp length-map u.within)) in
    u.absent (place_of list (get_or ns u.place [])) l (place_here list (get_or ns u.place []) l)

pub places_many : (list ns : List (List ℕ)) (p : ArrayVec ℕ) → Noted list ns p → length p.items ≡ length ns
places_many list ns p n = ap length n.is ∙ simp length-map

-- a name that is found is in the list
pub found_there : (list : List (List ℕ)) (name : List ℕ) (i : ℕ) → Found list name i → Absent list name → ⊥
found_there list name i f a =
    let l : place_of list name < length list = omega (arith, f.is, f.within) in
    a (place_of list name) l (place_here list name l)

pub empty_is : (xs : List ℕ) → length xs ≡ 0 → xs ≡ []
empty_is [] h = refl
empty_is (x ∷ xs) h = absurd (omega arith)

-- a list has at most one name more than bytes
pub few_names : (bs : List ℕ) → length (pieces bs) ≤ length bs + 1
few_names bs = omega (arith, length-slice_split (λ b. eqb b 44) bs, count_by-le-length (λ b. eqb b 44) bs)

-- a scope over places of a list, or why there is none
pub scoped : (s : Standing) (ns : List (List ℕ)) (p : ArrayVec ℕ) (o : Option Scope) → s.tables < 64 → length s.locks ≤ 64 → length ns ≤ 4 → Noted s.locks ns p → MatchOption o (Rising p.items → Below 64 p.items → 6 < length p.items) (λ x. named x ≡ p.items) → MatchResult (ok_or o NotRising) (λ scope. Scoped s ns scope) (λ cause. Unscoped cause s ns)
scoped s ns p (Some x) few short four n h = record {
  few = few;
  listed = all_listed _ _ (subst (Below _) n.is n.below);
  rises = subst Rising (h ∙ n.is) x.rising;
  over = record { is = h ∙ n.is; below = subst (Below _) (sym h) n.below };
}
scoped s ns p None few short four n h = (
  few,
  all_listed _ _ (subst (Below _) n.is n.below),
  λ rises. omega (arith, places_many _ _ p n, h (subst Rising (sym n.is) rises) (λ k l. omega (arith, n.below k l))),
)

-- two orders in turn, as tests
le_tests : (l e m n : Bool) → is_le (ordering_then (cond l Less (cond e Equal Greater)) (cond m Less (cond n Equal Greater))) ≡ l || (e && (m || n))
le_tests true e m n = refl
le_tests false false m n = refl
le_tests false true true n = refl
le_tests false true false true = refl
le_tests false true false false = refl

-- the order of pairs tells whether a bar is not above another
pub pairs_tell : (a b x y : ℕ) (r : Bool) → r ≡ is_some_and is_le (partial_ordering_then (Some (nat_cmp a x)) (Some (nat_cmp b y))) → Tells (NotAbove a b x y) r
pairs_tell a b x y r e =
    let f : r ≡ ltb a x || (eqb a x && (ltb b y || eqb b y)) = e ∙ ap (is_some_and is_le) (Some-then (nat_cmp a x) (nat_cmp b y)) ∙ le_tests (ltb a x) (eqb a x) (ltb b y) (eqb b y) in
    record {
      sound = λ t. grind (arith, nat_tests);
      full = λ h. grind (arith, nat_tests);
    }
