-- The weighing grade: a number from 0 to 1,000,001. None is 0, free 1,000,001, a charge weighs one more than
-- it says, either is the larger, both the smaller.
use Rattle.std.specs.Prelude.{ℕ, ◌+◌, min, max, cond, nat_le}
use Rattle.weighing.specs.Laws.{Algebra}
use Rattle.weighing.specs.Capping.{cut}
use Rattle.weighing.specs.declared.capped.Capped.{Capped}

-- a grade
abbrev pub Grade : Type 0
Grade = Capped 1000001

-- the grade of a number, cut to the largest
abbrev pub grade : ℕ → Grade
grade n = cut 1000001 n

abbrev pub higher : Grade → Grade → Grade
higher a b = grade (max a.value b.value)

abbrev pub lower : Grade → Grade → Grade
lower a b = grade (min a.value b.value)

-- in cells: the number itself; a number above the largest grade is none
abbrev pub graded : ℕ → Grade
graded n = cond (nat_le n 1000001) (grade n) (grade 0)

abbrev pub grades : Algebra Grade ℕ
grades = record {
  ops = record { none = grade 0; free = grade 1000001; either = higher; both = lower };
  weighed = λ c. grade (c.value + 1);
  plain = λ w. w.value;
  read = graded;
}
