use Rattle.std.proofs.Common.{◌≡◌, None, sym, ◌∙◌, ⊎_elim}
use borrow.Author.Tests.{clash}
use Rattle.std.proofs.lemmas.Option.{MatchOption-at_some, MatchOption-at_none}
use Rattle.lines.specs.Told.{bar}
use Rattle.filing.specs.Readers.{AnyRow, standing_of}
use Rattle.filing.proofs.Naming.{found_there, pairs_tell}
use Rattle.filing.proofs.Judged.{first_falls, all_pass}
use Rattle.filing.proofs.reader.Reader.take_bar.Goals as goal
use Rattle.filing.proofs.reader.Reader.take_bar.Goals.{in_default-via-in-None-1, in_default-via-in-Some+else-le}

pub returns : goal.returns
returns c follows =
    let s = standing_of c.args.self.now in
    let f = MatchOption-at_some _ _ c.in_ok-lock.lock c.in_ok-lock.ensures.ok_part c.find_in.ensures in
    let g = MatchOption-at_some _ _ c.in_ok-holder.holder c.in_ok-holder.ensures.ok_part c.find_in-2.ensures in
    let l = MatchOption-at_some _ _ c.in-Some.last c.in-Some.is c.requires in
    let t = pairs_tell c.in_ok-lock.lock c.in_ok-holder.holder c.in-Some.last.0 c.in-Some.last.1 c.le.result c.le.ensures in
    first_falls AnyRow s (bar c.args.lock.now c.args.holder.now) follows (λ h. h)
    (⊎_elim (λ a. found_there _ _ _ f a) (λ a. found_there _ _ _ g a))
    (l.0, rw (← f.is, ← g.is, ← l.1) (t.sound c.if-le.true))

pub returns-2 : goal.returns-2
returns-2 c follows =
    let s = standing_of c.args.self.now in
    let f = MatchOption-at_some _ _ c.in_ok-lock.lock c.in_ok-lock.ensures.ok_part c.find_in.ensures in
    let g = MatchOption-at_some _ _ c.in_ok-holder.holder c.in_ok-holder.ensures.ok_part c.find_in-2.ensures in
    record {
      passes = all_pass AnyRow s (bar c.args.lock.now c.args.holder.now) follows (λ h. h)
          (⊎_elim (λ a. found_there _ _ _ f a) (λ a. found_there _ _ _ g a))
          (λ h. elim c.in_default.branch [
            | in_default-via-in-None-1 w ↦ let none : c.args.last ≡ None = cc in MatchOption-at_none _ _ none c.requires h.0
            | in_default-via-in-Some+else-le w ↦
                let l = MatchOption-at_some _ _ w.in-Some.last w.in-Some.is c.requires in
                let t = pairs_tell c.in_ok-lock.lock c.in_ok-holder.holder w.in-Some.last.0 w.in-Some.last.1 w.le.result w.le.ensures in
                clash (sym w.if-le.false ∙ t.full (rw (f.is, g.is, l.1) h.1))
          ])
          (λ h. h);
      adds = (let p = f.is in let q = g.is in cc);
      moves = (let p = f.is in let q = g.is in cc);
    }
