use Rattle.std.proofs.Common.{◌∷◌, length, ap, sym, ◌∙◌, arith}
use Rattle.lines.specs.Told.{held_by_rest}
use Rattle.lines.proofs.Naming.{last_name, next_name}
use Rattle.lines.proofs.names.NamesIterIterator.next.Goals as goal

pub returns-in_default-clause-steps : goal.returns-in_default-clause-steps
returns-in_default-clause-steps c =
    ap held_by_rest (sym c.in_ok-rest.ensures.value) ∙ last_name _ c.in_default.ensures ∙ ap (λ r. c.in_ok-rest.rest.now ∷ held_by_rest r) (sym c.in_ok-rest.ensures.after)

pub returns-in_default-clause-goes : goal.returns-in_default-clause-goes
returns-in_default-clause-goes c =
    let fewer = ap length (returns-in_default-clause-steps c) in
    record { on = λ h. (tt, tt, omega (arith, fewer)); keeps = tt; rests = λ h. tt }

pub returns-clause-steps : goal.returns-clause-steps
returns-clause-steps c = ap held_by_rest (sym c.in_ok-rest.ensures.value) ∙ next_name _ _ _ c.in-Some.ensures

pub returns-clause-goes : goal.returns-clause-goes
returns-clause-goes c =
    let fewer = ap length (returns-clause-steps c) in
    record { on = λ h. (tt, tt, omega (arith, fewer)); keeps = tt; rests = λ h. tt }
