use Rattle.std.proofs.Common.{inl, inr, ⊎_elim, arith}
use Rattle.std.proofs.lemmas.List.{take_rest}
use Rattle.lines.proofs.Naming.{no_comma, no_length, next_same, one_piece, told_no, told_last}
use Rattle.lines.proofs.name.are_names.Goals as goal

pub returns-then-rest-i-ne44 : goal.returns-then-rest-i-ne44
returns-then-rest-i-ne44 c =
    let rest = c.loop-i.rest.now in
    let i = c.in-Some.i in
    let ends = c.in-Some.ensures in
    told_no _ rest c.loop-i.invariant (⊎_elim (λ w. no_comma rest i ends w) (⊎_elim (λ v. no_length rest i ends v.0 (inl v.1)) (λ v. no_length rest i ends v.0 (inr v.2))) c.then-rest-i-ne44.either)

pub loop-i-preserved : goal.loop-i-preserved
loop-i-preserved c =
    simp take_rest (next_same _ c.loop-i.rest.now c.in-Some.i c.loop-i.invariant c.in-Some.ensures (omega arith) (omega arith) (omega arith))

pub returns : goal.returns
returns c = told_last _ c.loop-i.rest.now _ c.loop-i.invariant (one_piece _ c.in_default.ensures) c.is_name.ensures
