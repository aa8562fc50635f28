use Rattle.std.proofs.Common.{[], ◌∷◌, ◌++◌, length, take, sym, ap, ◌∙◌, subst, arith}
use Rattle.std.proofs.lemmas.Iterator.Consumers.{YieldsList-from_first, YieldsList-turn, YieldsList-end}
use Rattle.std.proofs.lemmas.List.{get_or_read, length_push, take_all}
use Rattle.lines.specs.Names.{Absent}
use Rattle.lines.specs.Told.{held, left}
use Rattle.filing.specs.Standing.{place_of, places}
use Rattle.filing.specs.Resolving.{names_of}
use Rattle.filing.proofs.Naming.{places_more, below_push}
use Rattle.filing.proofs.resolve.places_in.Goals as goal

pub returns-in_err-find_in : goal.returns-in_err-find_in
returns-in_err-find_in c =
    let turn = YieldsList-turn (YieldsList-from_first (λ x. x.now) left (held c.args.names) cc) c.loop-name.yielded _ c.loop-name.yielded_by _ c.next.new.self c.in-Some.name c.in-Some.is c.next.ensures.steps in
    rw c.from_residual.ensures (record {
      place = length c.loop-name.yielded;
      within = turn.0;
      absent = subst (Absent (names_of c.args.list)) (get_or_read _ _ _ turn.0 turn.1 []) c.in_err-find_in.ensures;
    })

pub loop-name-preserved : goal.loop-name-preserved
loop-name-preserved c =
    let turn = YieldsList-turn (YieldsList-from_first (λ x. x.now) left (held c.args.names) cc) c.loop-name.yielded _ c.loop-name.yielded_by _ c.next.new.self c.in-Some.name c.in-Some.is c.next.ensures.steps in
    let n = length_push c.loop-name.yielded c.in-Some.name in
    let found = c.in_ok-find_in.ensures in
    record {
      count = omega (arith, ap length c.push.ensures.items, length_push c.loop-name.places.items c.in_ok-find_in.field-0, n, c.loop-name.invariant.count);
      is =
          c.push.ensures.items ∙ ap (λ xs. xs ++ (c.in_ok-find_in.field-0 ∷ [])) c.loop-name.invariant.is
          ∙ places_more (names_of c.args.list) (held c.args.names) (length c.loop-name.yielded) c.in_ok-find_in.field-0 turn.0 (found.is ∙ ap (place_of (names_of c.args.list)) (get_or_read _ _ _ turn.0 turn.1 []))
          ∙ ap (λ k. places (names_of c.args.list) (take k (held c.args.names))) (sym n);
      below = rw c.push.ensures.items (below_push _ _ _ c.loop-name.invariant.below found.within);
    }

pub returns : goal.returns
returns c =
    let end = YieldsList-end (YieldsList-from_first (λ x. x.now) left (held c.args.names) cc) c.loop-name.yielded _ c.loop-name.yielded_by _ c.next.new.self c.in-None.is c.next.ensures.steps in
    record {
      is = c.loop-name.invariant.is ∙ ap (places (names_of c.args.list)) (take_all _ _ (omega (arith, end.1)));
      below = c.loop-name.invariant.below;
    }
