use Rattle.std.specs.Prelude.{◌≡◌, Bool, true, false, cond, ◌≢◌, refl}
use Rattle.std.proofs.Common.{rules}
use Rattle.weighing.specs.Laws.{Lawful}
use Rattle.weighing.specs.YesNos.{is_yes, yes_nos}
use Rattle.weighing.specs.declared.yes_no.YesNo.{YesNo}
use Rattle.weighing.specs.declared.yes_no.YesNo.TheVariants.{No, Yes}

-- each truth value is a weight's
stray : (b : Bool) → ((w : YesNo) → is_yes w ≢ b) → cond b Yes No ≡ No
stray false no_weight = refl
stray true no_weight = absurd (no_weight Yes refl)

pub yes_no_laws : Lawful yes_nos
yes_no_laws = record {
  semiring = record {
    either_assoc = λ x y z. search rules;
    either_comm = λ x y. search rules;
    either_none = λ x. refl;
    both_assoc = λ x y z. search rules;
    both_comm = λ x y. search rules;
    both_free = λ x. refl;
    both_none = λ x. refl;
    distributes = λ x y z. search rules;
  };
  no_cancel = λ x y e. search rules;
  selects = λ x y. search rules;
  some = λ c e. search rules;
  back = λ w. search rules;
  stray = stray;
}
