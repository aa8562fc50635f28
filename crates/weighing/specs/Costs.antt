-- The weighing cost: none, or an amount of at most 1,000,000,000. Free is 0, a charge weighs what it says,
-- either is the smaller (none is the largest), both the sum, cut to 1,000,000,000.
use Rattle.std.specs.Prelude.{ℕ, ◌+◌, min, cond, Some, None, Option, option_map, nat_le}
use Rattle.weighing.specs.Laws.{Algebra}
use Rattle.weighing.specs.Capping.{cut}
use Rattle.weighing.specs.declared.capped.Capped.{Capped}
use Rattle.weighing.specs.declared.cost.Cost.{Cost}

-- an amount
abbrev pub Amount : Type 0
Amount = Capped 1000000000

-- the amount of a number, cut to the largest
abbrev pub amount : ℕ → Amount
amount n = cut 1000000000 n

-- the cost of an amount, and of none
abbrev pub cost : Option Amount → Cost
cost a = record { amount = a }

-- the amount, where there is one
abbrev pub amount_of : Cost → Option ℕ
amount_of a = option_map (λ x. x.value) a.amount

abbrev pub cheaper_amount : Option Amount → Option Amount → Option Amount
cheaper_amount None b = b
cheaper_amount (Some x) None = Some x
cheaper_amount (Some x) (Some y) = Some (amount (min x.value y.value))

abbrev pub sum_amount : Option Amount → Option Amount → Option Amount
sum_amount None b = None
sum_amount (Some x) None = None
sum_amount (Some x) (Some y) = Some (amount (x.value + y.value))

abbrev pub cheaper : Cost → Cost → Cost
cheaper a b = cost (cheaper_amount a.amount b.amount)

abbrev pub sum : Cost → Cost → Cost
sum a b = cost (sum_amount a.amount b.amount)

-- in cells: an amount as itself, none as the largest number of 32 bits
abbrev pub stored_amount : Option Amount → ℕ
stored_amount None = 4294967295
stored_amount (Some x) = x.value

abbrev pub stored : Cost → ℕ
stored a = stored_amount a.amount

abbrev pub loaded : ℕ → Cost
loaded n = cost (cond (nat_le n 1000000000) (Some (amount n)) None)

abbrev pub costs : Algebra Cost ℕ
costs = record {
  ops = record { none = cost None; free = cost (Some (amount 0)); either = cheaper; both = sum };
  weighed = λ c. cost (Some (amount c.value));
  plain = stored;
  read = loaded;
}
