-- Which line may follow which.
use Rattle.std.specs.Prelude.{ℕ, Bool, true, false, ◌||◌, List, [], ◌∷◌, Some, None, Option, ◌==◌}
use Rattle.lines.specs.declared.kind.Kind.{Kind}
use Rattle.filing.specs.declared.follow.Follow.{Follow}
use Rattle.lines.specs.declared.kind.Kind.TheVariants.{Locks, Holders, Table, Row, Differ, Same, Join, Bar}

-- the kinds that may come after a kind; None is the start of the text
abbrev pub next_kinds : Option Kind → List Kind
next_kinds None = Locks ∷ []
next_kinds (Some Locks) = Holders ∷ []
next_kinds (Some Holders) = Table ∷ Differ ∷ Same ∷ []
next_kinds (Some Table) = Table ∷ Row ∷ Differ ∷ Same ∷ Join ∷ Bar ∷ []
next_kinds (Some Row) = Table ∷ Row ∷ Differ ∷ Same ∷ Join ∷ Bar ∷ []
next_kinds (Some Differ) = Differ ∷ Same ∷ Join ∷ Bar ∷ []
next_kinds (Some Same) = Differ ∷ Same ∷ Join ∷ Bar ∷ []
next_kinds (Some Join) = Join ∷ Bar ∷ []
next_kinds (Some Bar) = Bar ∷ []

-- a number for each kind, to tell them apart
abbrev pub kind_code : Kind → ℕ
kind_code Locks = 0
kind_code Holders = 1
kind_code Table = 2
kind_code Row = 3
kind_code Differ = 4
kind_code Same = 5
kind_code Join = 6
kind_code Bar = 7

abbrev pub among : ℕ → List Kind → Bool
among n [] = false
among n (k ∷ ks) = n == kind_code k || among n ks

-- a line of this kind may follow
abbrev pub may_follow : Option Kind → Kind → Bool
may_follow before k = among (kind_code k) (next_kinds before)

-- the text may end
abbrev pub may_end : Option Kind → Bool
may_end None = false
may_end (Some Locks) = false
may_end (Some Holders) = false
may_end (Some Table) = true
may_end (Some Row) = true
may_end (Some Differ) = true
may_end (Some Same) = true
may_end (Some Join) = true
may_end (Some Bar) = true

-- what may come after a kind, one truth value for each kind and one for the end
abbrev pub follow_of : Option Kind → Follow
follow_of b = record { locks = may_follow b Locks; holders = may_follow b Holders; table = may_follow b Table; row = may_follow b Row; differ = may_follow b Differ; same = may_follow b Same; join = may_follow b Join; bar = may_follow b Bar; end = may_end b }
