use Rattle.std.proofs.Common.{sym, subst, MatchResult}
use Rattle.std.proofs.lemmas.Option.{MatchOption-at_some}
use Rattle.lines.specs.Told.{held}
use Rattle.filing.specs.Readers.{standing_of, Scoped, Unscoped}
use Rattle.filing.proofs.Naming.{scoped}
use Rattle.filing.proofs.reader.Reader.scope_of.Goals as goal

pub returns : goal.returns
returns c =
    let s = standing_of c.args.self.now in
    let ns = held c.args.locks in
    let n = MatchOption-at_some _ _ c.in_ok-places.places c.in_ok-places.ensures.ok_part c.places_in.ensures in
    subst (λ r. MatchResult r (λ scope. Scoped s ns scope) (λ cause. Unscoped cause s ns)) (sym c.ok_or-2.ensures.value)
    (scoped s ns c.in_ok-places.places c.of.result c.if-self-ge64.false c.args.self.now.few_locks c.requires n (rw c.as_slice.ensures.value at c.of.ensures))
