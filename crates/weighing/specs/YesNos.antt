-- The weighing yes/no: none is no; free and every charge are yes; either is or, both is and.
use Rattle.std.specs.Prelude.{Bool, true, false, cond}
use Rattle.weighing.specs.Laws.{Algebra}
use Rattle.weighing.specs.declared.yes_no.YesNo.{YesNo}
use Rattle.weighing.specs.declared.yes_no.YesNo.TheVariants.{No, Yes}

abbrev pub or : YesNo → YesNo → YesNo
or No b = b
or Yes b = Yes

abbrev pub and : YesNo → YesNo → YesNo
and No b = No
and Yes b = b

-- in cells: true is yes
abbrev pub is_yes : YesNo → Bool
is_yes No = false
is_yes Yes = true

abbrev pub yes_nos : Algebra YesNo Bool
yes_nos = record {
  ops = record { none = No; free = Yes; either = or; both = and };
  weighed = λ _. Yes;
  plain = is_yes;
  read = λ b. cond b Yes No;
}
