use Rattle.std.proofs.Common.{◌≡◌, ◌≤◌, length, get_or, sym, ◌∙◌, arith, rules, tests}
use Rattle.lines.proofs.Numerals.{front, not_long, not_text, read_of}
use Rattle.lines.proofs.number.read_number.Goals as goal

pub returns-in-48 : goal.returns-in-48
returns-in-48 c n s = omega (arith, front _ n s)

pub returns-in-48-2 : goal.returns-in-48-2
returns-in-48-2 c n s = grind (arith, front _ n s)

pub returns-in-48-3 : goal.returns-in-48-3
returns-in-48-3 c n s = omega (arith, front _ n s)

pub returns-in_default : goal.returns-in_default
returns-in_default c n s = omega (arith, not_long _ n s)

pub returns-in_err-digits-in_default-2 : goal.returns-in_err-digits-in_default-2
returns-in_err-digits-in_default-2 c =
    rw c.from_residual.ensures (λ n s. not_text _ _ _ c.from_utf8.result c.from_utf8.ensures.cases (sym c.ok.ensures.value ∙ c.in_err-digits-in_default-2.was) n s)

pub returns-in_ok-digits-in_default-2 : goal.returns-in_ok-digits-in_default-2
returns-in_ok-digits-in_default-2 c =
    let bs = c.args.bytes.now in
    let same : c.in_ok-digits-in_default-2.digits.now ≡ bs = search (rules, tests) in
    let plain : get_or bs 0 0 ≡ 43 → ⊥ = grind arith in
    let lead : get_or bs 0 0 ≡ 48 → length bs ≤ 1 = grind arith in
    read_of _ bs c.parse.result c.filter.result (rw same at c.parse.ensures.value.0) plain lead (rw c.ok-in_default-2.ensures.value at c.filter.ensures) (λ x b k. search (rules, tests))
