-- A text is cut into lines in one way, and the first line that meets a condition is one.
use Rattle.std.proofs.Common.{◌≡◌, ℕ, ◌+◌, true, List, [], ◌∷◌, ◌++◌, length, sym, refl, ap, ◌∙◌, subst, ⊎_elim, append_assoc, append-nil, arith, length-append}
use borrow.Author.Tests.{clash}
use Rattle.std.specs.List.{AllByRecursion}
use Rattle.std.proofs.str.Laws.{order}
use Rattle.book.specs.Refusals.{record_number}
use Rattle.book.specs.declared.refusal.Refusal.{Refusal}
use Rattle.book.specs.declared.refusal.RecordCause.{RecordCause}
use Rattle.book.specs.declared.refusal.RecordCause.TheVariants.{Misplaced, TooMany, WrongName, NotRising, NoRoom}
use Rattle.lines.specs.Told.{Told, spell, Good}
use Rattle.lines.specs.Texts.{spell_all, Begins}
use Rattle.lines.proofs.Cutting.{one_place}
use Rattle.lines.proofs.Spelling.{lacks_spell, one_value, one_reading}
use Rattle.filing.specs.declared.record.RowRecord.{RowRecord}
use Rattle.filing.specs.Follows.{may_end}
use Rattle.filing.specs.Standing.{Standing, at_start, after, after_all}
use Rattle.filing.specs.Judging.{Met, FirstMet, Passes}
use Rattle.filing.specs.Reading.{AllPass, Accepted, Stops, no_line, met, ended, Refused, long, at, record_refusal}
use Rattle.filing.specs.Verdicts.{OneVerdict}

-- the line that begins a text is one, and so is what follows it

pub record OneLine (t u : Told) (x y : List ℕ) : Type 0 where
  pub line : t ≡ u
  pub rest : x ≡ y

pub one_line : (t u : Told) (x y : List ℕ) → Good t → Good u → spell t ++ (10 ∷ x) ≡ spell u ++ (10 ∷ y) → OneLine t u x y
one_line t u x y g h e =
    let r = one_place 10 (spell t) (spell u) x y e (lacks_spell t g) (lacks_spell u h) in
    record { line = one_value t u g h r.front; rest = r.back }

-- what stops a text whose next line passes: nothing

module _ (Bad : ℕ → RowRecord → Type 0) where
  goes_on : (s : Standing) (place : ℕ) (rest next : List ℕ) (e : Refusal) (t : Told) → Begins t rest next → Passes Bad s t → Stops Bad s place rest e → ⊥
  goes_on s place rest next e t b p (no_line some none is) = none t next b
  goes_on s place rest next e t b p (met u after cause begins first is) =
      let o = one_line u t after next begins.good b.good (sym begins.is ∙ b.is) in
      p cause (subst (Met Bad cause s) o.line first.met)
  goes_on s place rest next e t b p (ended none unfit is) = omega (arith, ap length (sym b.is ∙ none), length-append (spell t) (10 ∷ next))

  -- two stops of one text are after the same lines

  record SameStop (ts us : List Told) (x y : List ℕ) : Type 0 where
    lines : ts ≡ us
    rest : x ≡ y

  same_stop : (s : Standing) (p q : ℕ) (ts us : List Told) (x y : List ℕ) (e f : Refusal) → AllByRecursion Good ts → AllByRecursion Good us → AllPass Bad s ts → AllPass Bad s us → spell_all ts ++ x ≡ spell_all us ++ y → Stops Bad (after_all s ts) p x e → Stops Bad (after_all s us) q y f → SameStop ts us x y
  same_stop s p q [] [] x y e f gt gu pt pu w a b = record { lines = refl; rest = w }
  same_stop s p q [] (u ∷ us) x y e f gt gu pt pu w a b =
      absurd (goes_on s p x (spell_all us ++ y) e u (record { good = gu.0; is = w ∙ append_assoc (spell u) (10 ∷ spell_all us) y }) pu.0 a)
  same_stop s p q (t ∷ ts) [] x y e f gt gu pt pu w a b =
      absurd (goes_on s q y (spell_all ts ++ x) f t (record { good = gt.0; is = sym w ∙ append_assoc (spell t) (10 ∷ spell_all ts) x }) pt.0 b)
  same_stop s p q (t ∷ ts) (u ∷ us) x y e f gt gu pt pu w a b =
      let o = one_line t u (spell_all ts ++ x) (spell_all us ++ y) gt.0 gu.0 (sym (append_assoc (spell t) (10 ∷ spell_all ts) x) ∙ w ∙ append_assoc (spell u) (10 ∷ spell_all us) y) in
      let l = o.line in
      let r = same_stop (after s t) p q ts us x y e f gt.1 gu.1 pt.1 (subst (λ v. AllPass Bad (after s v) us) (sym l) pu.1) o.rest a (subst (λ v. Stops Bad (after_all (after s v) us) q y f) (sym l) b) in
      record { lines = (let k = r.lines in cc); rest = r.rest }

  -- one line meets one condition first

  number_tells : (c d : RecordCause) → record_number c ≡ record_number d → c ≡ d
  number_tells Misplaced Misplaced e = refl
  number_tells Misplaced TooMany e = absurd (omega arith)
  number_tells Misplaced WrongName e = absurd (omega arith)
  number_tells Misplaced NotRising e = absurd (omega arith)
  number_tells Misplaced NoRoom e = absurd (omega arith)
  number_tells TooMany Misplaced e = absurd (omega arith)
  number_tells TooMany TooMany e = refl
  number_tells TooMany WrongName e = absurd (omega arith)
  number_tells TooMany NotRising e = absurd (omega arith)
  number_tells TooMany NoRoom e = absurd (omega arith)
  number_tells WrongName Misplaced e = absurd (omega arith)
  number_tells WrongName TooMany e = absurd (omega arith)
  number_tells WrongName WrongName e = refl
  number_tells WrongName NotRising e = absurd (omega arith)
  number_tells WrongName NoRoom e = absurd (omega arith)
  number_tells NotRising Misplaced e = absurd (omega arith)
  number_tells NotRising TooMany e = absurd (omega arith)
  number_tells NotRising WrongName e = absurd (omega arith)
  number_tells NotRising NotRising e = refl
  number_tells NotRising NoRoom e = absurd (omega arith)
  number_tells NoRoom Misplaced e = absurd (omega arith)
  number_tells NoRoom TooMany e = absurd (omega arith)
  number_tells NoRoom WrongName e = absurd (omega arith)
  number_tells NoRoom NotRising e = absurd (omega arith)
  number_tells NoRoom NoRoom e = refl

  one_cause : (c d : RecordCause) (s : Standing) (t : Told) → FirstMet Bad c s t → FirstMet Bad d s t → c ≡ d
  one_cause c d s t f g =
      ⊎_elim (λ l. absurd (g.first c l f.met))
      (λ h. ⊎_elim (λ l. absurd (f.first d l g.met)) (λ k. number_tells c d (omega arith)) (order (record_number d) (record_number c)))
      (order (record_number c) (record_number d))

  no_begin : (t : Told) (rest next : List ℕ) → Begins t rest next → rest ≡ [] → ⊥
  no_begin t rest next b e = omega (arith, ap length (sym b.is ∙ e), length-append (spell t) (10 ∷ next))

  one_stop : (s : Standing) (place : ℕ) (rest : List ℕ) (e f : Refusal) → Stops Bad s place rest e → Stops Bad s place rest f → e ≡ f
  one_stop s place rest e f (no_line some none is) (no_line some' none' is') = is ∙ sym is'
  one_stop s place rest e f (no_line some none is) (met t next c b g is') = absurd (none t next b)
  one_stop s place rest e f (no_line some none is) (ended none' unfit is') = absurd (omega (arith, ap length none'))
  one_stop s place rest e f (met t next c b g is) (no_line some none is') = absurd (none t next b)
  one_stop s place rest e f (met t next c b g is) (met u after d k h is') =
      let o = one_line t u next after b.good k.good (sym b.is ∙ k.is) in
      is ∙ ap (record_refusal place) (one_cause c d s u (subst (FirstMet Bad c s) o.line g) h) ∙ sym is'
  one_stop s place rest e f (met t next c b g is) (ended none unfit is') = absurd (no_begin t rest next b none)
  one_stop s place rest e f (ended none unfit is) (no_line some none' is') = absurd (omega (arith, ap length none))
  one_stop s place rest e f (ended none unfit is) (met t next c b g is') = absurd (no_begin t rest next b none)
  one_stop s place rest e f (ended none unfit is) (ended none' unfit' is') = is ∙ sym is'

  -- an accepted text is stopped nowhere

  not_stopped : (s : Standing) (q : ℕ) (ts us : List Told) (y : List ℕ) (f : Refusal) → AllByRecursion Good ts → AllByRecursion Good us → AllPass Bad s ts → AllPass Bad s us → spell_all ts ++ [] ≡ spell_all us ++ y → may_end (after_all s ts).before ≡ true → Stops Bad (after_all s us) q y f → ⊥
  not_stopped s q [] [] y f gt gu pt pu w ends (no_line some none is) = omega (arith, ap length w)
  not_stopped s q [] [] y f gt gu pt pu w ends (met t next c b g is) = no_begin t y next b (sym w)
  not_stopped s q [] [] y f gt gu pt pu w ends (ended none unfit is) = clash (sym unfit ∙ ends)
  not_stopped s q [] (u ∷ us) y f gt gu pt pu w ends b = omega (arith, ap length w, length-append (spell_all (u ∷ us)) y, length-append (spell u) (10 ∷ spell_all us))
  not_stopped s q (t ∷ ts) [] y f gt gu pt pu w ends b =
      goes_on s q y (spell_all ts ++ []) f t (record { good = gt.0; is = sym w ∙ append_assoc (spell t) (10 ∷ spell_all ts) [] }) pt.0 b
  not_stopped s q (t ∷ ts) (u ∷ us) y f gt gu pt pu w ends b =
      let o = one_line t u (spell_all ts ++ []) (spell_all us ++ y) gt.0 gu.0 (sym (append_assoc (spell t) (10 ∷ spell_all ts) []) ∙ w ∙ append_assoc (spell u) (10 ∷ spell_all us) y) in
      let l = o.line in
      not_stopped (after s t) q ts us y f gt.1 gu.1 pt.1 (subst (λ v. AllPass Bad (after s v) us) (sym l) pu.1) o.rest ends (subst (λ v. Stops Bad (after_all (after s v) us) q y f) (sym l) b)

  never_both : (text : List ℕ) (e : Refusal) (ts us : List Told) → Accepted Bad text ts → Refused Bad text e us → ⊥
  never_both text e ts us a (long l none is) = omega (arith, a.short)
  never_both text e ts us a (at r) =
      not_stopped at_start _ ts us r.rest e a.reached.good r.reached.good a.reached.pass r.reached.pass (sym a.reached.whole ∙ r.reached.whole) a.ends r.stops

  refused_alike : (text : List ℕ) (e f : Refusal) (ts us : List Told) → Refused Bad text e ts → Refused Bad text f us → (e ≡ f) × (ts ≡ us)
  refused_alike text e f ts us (long l none is) (long l' none' is') = (is ∙ sym is', none ∙ sym none')
  refused_alike text e f ts us (long l none is) (at r) = absurd (omega (arith, r.short))
  refused_alike text e f ts us (at r) (long l none is) = absurd (omega (arith, r.short))
  refused_alike text e f ts us (at r) (at q) =
      let k = same_stop at_start _ _ ts us r.rest q.rest e f r.reached.good q.reached.good r.reached.pass q.reached.pass (sym r.reached.whole ∙ q.reached.whole) r.stops q.stops in
      let l = k.lines in
      (one_stop (after_all at_start us) (length us + 1) q.rest e f (subst (λ x. Stops Bad (after_all at_start us) (length us + 1) x e) k.rest (subst (λ v. Stops Bad (after_all at_start v) (length v + 1) r.rest e) l r.stops)) q.stops, l)

  pub one_verdict : OneVerdict Bad
  one_verdict = record {
    never_both = never_both;
    one_reading = λ text ts us a b. one_reading ts us a.reached.good b.reached.good (sym (append-nil _) ∙ sym a.reached.whole ∙ b.reached.whole ∙ append-nil _);
    one_refusal = λ text e f ts us a b. (refused_alike text e f ts us a b).0;
    one_stop = λ text e f ts us a b. (refused_alike text e f ts us a b).1;
  }
