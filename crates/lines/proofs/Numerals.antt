-- What `parse` says of a number's one spelling.
use Rattle.std.proofs.Common.{◌≡◌, ℕ, ◌^◌, ◌<◌, ◌≤◌, Bool, true, false, leb, List, length, get_or, Option, None, Result, Ok, Err, MatchOption, MatchResult, decimal, sym, ap, ◌∙◌, subst, ⊎_elim, arith}
use Rattle.std.specs.Bool.{then_some}
use Rattle.std.specs.Result.{result_ok, OkIff}
use Rattle.std.specs.Str.{IsUtf8}
use Rattle.std.specs.Str.Parse.{AllDigits, digits_value, ParsesUnsigned}
use Rattle.std.proofs.lemmas.Bool.{leb-true, leb-false}
use Rattle.std.proofs.lemmas.Str.{IsUtf8-from_ascii}
use Rattle.std.proofs.lemmas.Str.Parse.{IsNumeralModel, numerals_by_value, tells_digits, digit_at, parse_plain}
use Rattle.std.proofs.lemmas.Fmt.{length-decimal-le, decimal_nonempty, decimal_digit, first_decimal, digits_decimal, digits_value-decimal, decimal-digits_value, IsAscii-from_digits}
use Rattle.std.proofs.str.Laws.{order}
use Rattle.lines.specs.Numbers.{Spelled}

own : IsNumeralModel (AllDigits 10) (digits_value 10)
own = numerals_by_value _ tells_digits

wide : (n : ℕ) → n ≤ 1000000 → n < 2 ^ 64
wide n h = omega arith

digits : (bs : List ℕ) (n : ℕ) → Spelled n bs → AllDigits 10 bs
digits bs n s = subst (AllDigits 10) (sym s.is) (digits_decimal own n (wide n s.small))

value : (bs : List ℕ) (n : ℕ) → Spelled n bs → digits_value 10 bs ≡ n
value bs n s = ap (digits_value 10) s.is ∙ digits_value-decimal own n (wide n s.small)

-- how a spelling begins
pub record Front (bs : List ℕ) : Type 0 where
  pub some : 0 < length bs
  pub digit : 48 ≤ get_or bs 0 0
  pub lead : 2 ≤ length bs → 48 < get_or bs 0 0

pub front : (bs : List ℕ) (n : ℕ) → Spelled n bs → Front bs
front bs n s =
    let some : 0 < length bs = omega (arith, decimal_nonempty n (wide n s.small), ap length s.is) in
    let digit = digit_at bs 0 (digits bs n s) some in
    record {
      some = some;
      digit = omega (arith, digit.0);
      lead = λ long. ⊎_elim
          (λ more. omega (arith, first_decimal n more (wide n s.small), ap (λ l. get_or l 0 0) s.is))
          (λ none. let z : n ≡ 0 = omega arith in omega (arith, ap length (s.is ∙ ap decimal z ∙ decimal_digit 0 (omega arith))))
          (order 0 n);
    }

-- no number has more digits than a million
pub not_long : (bs : List ℕ) (n : ℕ) → Spelled n bs → length bs ≤ 7
not_long bs n s = omega (arith, ap length s.is, length-decimal-le 7 n (omega arith) (omega (arith, s.small)) (wide n s.small))

-- bytes that are no text spell no number
pub not_text : {T E : Type 0} (P : T → Type 0) (Q : E → Type 0) (bs : List ℕ) (r : Result T E) → MatchResult r P (λ e. (IsUtf8 bs → ⊥) × Q e) → result_ok r ≡ None → (n : ℕ) → Spelled n bs → ⊥
not_text P Q bs (Ok x) h e n s = cc
not_text P Q bs (Err x) h e n s = h.0 (IsUtf8-from_ascii bs (IsAscii-from_digits bs (digits bs n s)))

-- digits of a small value are its spelling, and other digits spell no number
up_to : (bs : List ℕ) (x : ℕ) (b : Bool) → b ≡ leb x 1000000 → x ≡ digits_value 10 bs → AllDigits 10 bs → 0 < length bs → (get_or bs 0 0 ≡ 48 → length bs ≤ 1) → MatchOption (then_some b x) ((n : ℕ) → Spelled n bs → ⊥) (λ n. Spelled n bs)
up_to bs x true t e d some lead =
    let small : x ≤ 1000000 = leb-true x 1000000 (sym t) in
    record { small = small; is = sym (ap decimal e ∙ decimal-digits_value own bs d some (λ h. omega (arith, lead h)) (omega arith)) }
up_to bs x false t e d some lead = λ n s. omega (arith, value bs n s, s.small, leb-false x 1000000 (sym t))

-- what `parse` and `filter` read of a text with no plus and no leading zero
pub read_of : {E : Type 0} (Says : ℕ → Bool → Type 0) (bs : List ℕ) (r : Result ℕ E) (read : Option ℕ) → ParsesUnsigned 32 10 bs r → (get_or bs 0 0 ≡ 43 → ⊥) → (get_or bs 0 0 ≡ 48 → length bs ≤ 1) → MatchOption (result_ok r) (read ≡ None) (λ x. (b : Bool) × Says x b × (read ≡ then_some b x)) → ((x : ℕ) (b : Bool) → Says x b → b ≡ leb x 1000000) → MatchOption read ((n : ℕ) → Spelled n bs → ⊥) (λ n. Spelled n bs)
read_of {E} Says bs r read p plain lead h says = of r (parse_plain own 32 bs r p plain) h where
  of : (r : Result ℕ E) → OkIff r (AllDigits 10 bs × (0 < length bs) × (digits_value 10 bs < 2 ^ 32)) (digits_value 10 bs) → MatchOption (result_ok r) (read ≡ None) (λ x. (b : Bool) × Says x b × (read ≡ then_some b x)) → MatchOption read ((n : ℕ) → Spelled n bs → ⊥) (λ n. Spelled n bs)
  of (Err e) q h = rw h (λ n s. q (digits bs n s, (front bs n s).some, omega (arith, value bs n s, s.small)))
  of (Ok x) q h = rw h.2 (up_to bs x h.0 (says x h.0 h.1) q.1 q.0.0 q.0.1 lead)
