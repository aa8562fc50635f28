use Rattle.std.proofs.Common.{◌≡◌, ℕ, List, length, None, sym, ap, ◌∙◌, subst, inl, inr, ⊎_elim, arith}
use Rattle.std.proofs.lemmas.Option.{MatchOption-at_some, MatchOption-at_none}
use Rattle.arrayvec.specs.ArrayVec.{ArrayVec}
use Rattle.book.specs.Lists.{Below}
use Rattle.book.specs.Rows.{row_number}
use Rattle.lines.specs.Told.{row, held}
use Rattle.filing.specs.Standing.{places, row_of}
use Rattle.filing.specs.Resolving.{Noted}
use Rattle.filing.specs.Readers.{AnyRow, standing_of}
use Rattle.filing.proofs.Naming.{all_listed, places_many}
use Rattle.filing.proofs.Judged.{first_falls, all_pass}
use Rattle.filing.proofs.reader.Reader.take_row.Goals as goal
use Rattle.filing.proofs.reader.Reader.take_row.Goals.{in_default-via-in-None-1, in_default-via-in-Some+else-row-last}

number : (list ns : List (List ℕ)) (k r : ℕ) (p : ArrayVec ℕ) → Noted list ns p → k ≡ length list → r ≡ row_number k p.items → r ≡ row_number (length list) (places list ns)
number list ns k r p n e f = f ∙ ap (λ h. row_number h p.items) e ∙ ap (row_number (length list)) n.is

pub returns-then-len-self : goal.returns-then-len-self
returns-then-len-self c follows =
    let n = MatchOption-at_some _ _ c.in_ok-places.places c.in_ok-places.ensures.ok_part c.places_in.ensures in
    first_falls AnyRow (standing_of c.args.self.now) (row (held c.args.holders) c.args.charge) follows (λ h. h)
    (all_listed _ _ (subst (Below _) n.is n.below))
    (inl (λ e. c.if-len-self.true (c.len.ensures.value ∙ places_many _ _ _ n ∙ e)))

pub returns : goal.returns
returns c follows =
    let n = MatchOption-at_some _ _ c.in_ok-places.places c.in_ok-places.ensures.ok_part c.places_in.ensures in
    let e = number _ _ _ _ _ n c.count_in.ensures c.number_of-row.ensures in
    let l = MatchOption-at_some _ _ c.in-Some.last c.in-Some.is c.requires.last in
    first_falls AnyRow (standing_of c.args.self.now) (row (held c.args.holders) c.args.charge) follows (λ h. h)
    (all_listed _ _ (subst (Below _) n.is n.below))
    (inr (l.0, omega (arith, e, l.1, c.if-row-last.true)))

pub returns-2 : goal.returns-2
returns-2 c follows =
    let s = standing_of c.args.self.now in
    let n = MatchOption-at_some _ _ c.in_ok-places.places c.in_ok-places.ensures.ok_part c.places_in.ensures in
    let e : c.number_of-row.result ≡ row_of s (held c.args.holders) = number _ _ _ _ _ n c.count_in.ensures c.number_of-row.ensures in
    let t = c.saturating_sub.ensures in
    let v = c.charge_of.ensures in
    record {
      passes = all_pass AnyRow s (row (held c.args.holders) c.args.charge) follows (λ h. h)
          (all_listed _ _ (subst (Below _) n.is n.below))
          (⊎_elim (λ h. h (sym (places_many _ _ _ n) ∙ sym c.len.ensures.value ∙ c.if-len-self.false)) (λ h. elim c.in_default.branch [
            | in_default-via-in-None-1 w ↦ let none : c.args.last ≡ None = cc in MatchOption-at_none _ _ none c.requires.last h.0
            | in_default-via-in-Some+else-row-last w ↦ let l = MatchOption-at_some _ _ w.in-Some.last w.in-Some.is c.requires.last in omega (arith, e, h.1, l.1, w.if-row-last.false)
          ]))
          (λ h. h);
      adds = cc;
      moves = cc;
    }
