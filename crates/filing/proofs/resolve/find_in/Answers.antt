use Rattle.std.proofs.Common.{sym, subst, MatchOption}
use Rattle.lines.specs.Names.{Absent}
use Rattle.filing.specs.Resolving.{names_of, Found}
use Rattle.filing.proofs.Naming.{found_first, option_weaker}
use Rattle.filing.proofs.resolve.find_in.Goals as goal

pub returns : goal.returns
returns c =
    subst (λ l. MatchOption c.find.result (Absent (names_of l) c.args.name.now) (λ i. Found (names_of l) c.args.name.now i)) (sym c.in_ok-list.was)
    (option_weaker c.find.result c.find.ensures (λ h. h) (λ i f. found_first _ _ i f))
