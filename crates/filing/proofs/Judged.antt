-- Which condition is the first that a line meets.
use Rattle.std.proofs.Common.{◌≡◌, ℕ, ◌<◌, ◌≤◌, true, false, List, length, sym, ap, ◌∙◌, arith}
use borrow.Author.Tests.{clash}
use Rattle.book.specs.Refusals.{record_number}
use Rattle.book.specs.declared.refusal.RecordCause.{RecordCause}
use Rattle.book.specs.declared.refusal.RecordCause.TheVariants.{Misplaced, TooMany, WrongName, NotRising, NoRoom}
use Rattle.lines.specs.Told.{Told, locks, holders, table, row, differ, same, join, bar, kind_of}
use Rattle.filing.specs.declared.record.RowRecord.{RowRecord}
use Rattle.filing.specs.declared.reader.Entry.TheVariants as entry
use Rattle.filing.specs.declared.rule.RuleForm.{RuleForm}
use Rattle.filing.specs.declared.rule.RuleForm.TheVariants as form
use Rattle.weighing.specs.Charges.{Charge}
use Rattle.lines.specs.declared.kind.Kind.TheVariants as kind
use Rattle.filing.specs.Follows.{may_follow}
use Rattle.filing.specs.Standing.{Standing, add_table, charge_of}
use Rattle.filing.specs.Judging.{Unlisted, Falls, HasTooMany, HasWrongName, IsNotRising, HasNoRoom, Met, FirstMet, Passes}
use Rattle.filing.specs.Readers.{AnyRow, Unscoped, Scoped, Taken, rule_line}
use Rattle.book.specs.declared.scope.Scope.{Scope}

-- with the row list left aside no line lacks room
pub room : (s : Standing) (t : Told) → HasNoRoom AnyRow s t → ⊥
room s (locks ns) h = h
room s (holders ns) h = h
room s (table ns) h = h
room s (row ns n) h = h
room s (differ ns n) h = h
room s (same ns n) h = h
room s (join m n) h = h
room s (bar l h) k = k

module _ (Bad : ℕ → RowRecord → Type 0) (s : Standing) (t : Told) where
  pub first_misplaced : may_follow s.before (kind_of t) ≡ false → FirstMet Bad Misplaced s t
  first_misplaced h = record { met = h; first = below } where
    below : (c : RecordCause) → record_number c < 3 → Met Bad c s t → ⊥
    below Misplaced l m = omega arith
    below TooMany l m = omega arith
    below WrongName l m = omega arith
    below NotRising l m = omega arith
    below NoRoom l m = omega arith

  module _ (follows : may_follow s.before (kind_of t) ≡ true) where
    pub first_many : HasTooMany s t → FirstMet Bad TooMany s t
    first_many h = record { met = h; first = below } where
      below : (c : RecordCause) → record_number c < 4 → Met Bad c s t → ⊥
      below Misplaced l m = clash (sym m ∙ follows)
      below TooMany l m = omega arith
      below WrongName l m = omega arith
      below NotRising l m = omega arith
      below NoRoom l m = omega arith

    module _ (few : HasTooMany s t → ⊥) where
      pub first_wrong : HasWrongName s t → FirstMet Bad WrongName s t
      first_wrong h = record { met = h; first = below } where
        below : (c : RecordCause) → record_number c < 5 → Met Bad c s t → ⊥
        below Misplaced l m = clash (sym m ∙ follows)
        below TooMany l m = few m
        below WrongName l m = omega arith
        below NotRising l m = omega arith
        below NoRoom l m = omega arith

      module _ (right : HasWrongName s t → ⊥) where
        pub first_falls : IsNotRising s t → FirstMet Bad NotRising s t
        first_falls h = record { met = h; first = below } where
          below : (c : RecordCause) → record_number c < 6 → Met Bad c s t → ⊥
          below Misplaced l m = clash (sym m ∙ follows)
          below TooMany l m = few m
          below WrongName l m = right m
          below NotRising l m = omega arith
          below NoRoom l m = omega arith

        pub all_pass : (IsNotRising s t → ⊥) → (HasNoRoom Bad s t → ⊥) → Passes Bad s t
        all_pass rises has Misplaced m = clash (sym m ∙ follows)
        all_pass rises has TooMany m = few m
        all_pass rises has WrongName m = right m
        all_pass rises has NotRising m = rises m
        all_pass rises has NoRoom m = has m

-- a table's line, or a rule's: its conditions are those of its scope
pub record IsTable (s : Standing) (t : Told) (ns : List (List ℕ)) : Type 0 where
  pub follows : may_follow s.before (kind_of t) ≡ true
  pub many : 64 ≤ s.tables → HasTooMany s t
  pub many_only : HasTooMany s t → 64 ≤ s.tables
  pub wrong : Unlisted s.locks ns → HasWrongName s t
  pub wrong_only : HasWrongName s t → Unlisted s.locks ns
  pub falls : Falls s ns → IsNotRising s t
  pub falls_only : IsNotRising s t → Falls s ns

pub scope_first : (s : Standing) (t : Told) (ns : List (List ℕ)) → IsTable s t ns → (cause : RecordCause) → Unscoped cause s ns → FirstMet AnyRow cause s t
scope_first s t ns i Misplaced u = absurd u
scope_first s t ns i TooMany u = first_many AnyRow s t i.follows (i.many u)
scope_first s t ns i WrongName u = first_wrong AnyRow s t i.follows (λ h. omega (arith, i.many_only h, u.0)) (i.wrong u.1)
scope_first s t ns i NotRising u = first_falls AnyRow s t i.follows (λ h. omega (arith, i.many_only h, u.0)) (λ h. u.1 (i.wrong_only h)) (i.falls u.2)
scope_first s t ns i NoRoom u = absurd u

pub scope_passes : (s : Standing) (t : Told) (ns : List (List ℕ)) → IsTable s t ns → (scope : Scope) → Scoped s ns scope → Passes AnyRow s t
scope_passes s t ns i scope g =
    all_pass AnyRow s t i.follows (λ h. omega (arith, i.many_only h, g.few)) (λ h. g.listed (i.wrong_only h)) (λ h. i.falls_only h g.rises) (room s t)

pub is_table : (s : Standing) (ns : List (List ℕ)) → may_follow s.before (kind_of (table ns)) ≡ true → IsTable s (table ns) ns
is_table s ns f = record { follows = f; many = λ h. h; many_only = λ h. h; wrong = λ h. h; wrong_only = λ h. h; falls = λ h. h; falls_only = λ h. h }

is_differ : (s : Standing) (ns : List (List ℕ)) (n : ℕ) → may_follow s.before (kind_of (differ ns n)) ≡ true → IsTable s (differ ns n) ns
is_differ s ns n f = record { follows = f; many = λ h. h; many_only = λ h. h; wrong = λ h. h; wrong_only = λ h. h; falls = λ h. h; falls_only = λ h. h }

is_same : (s : Standing) (ns : List (List ℕ)) (n : ℕ) → may_follow s.before (kind_of (same ns n)) ≡ true → IsTable s (same ns n) ns
is_same s ns n f = record { follows = f; many = λ h. h; many_only = λ h. h; wrong = λ h. h; wrong_only = λ h. h; falls = λ h. h; falls_only = λ h. h }

pub is_rule : (s : Standing) (f : RuleForm) (ns : List (List ℕ)) (n : ℕ) → may_follow s.before (kind_of (rule_line f ns n)) ≡ true → IsTable s (rule_line f ns n) ns
is_rule s form.Differ ns n h = is_differ s ns n h
is_rule s form.Same ns n h = is_same s ns n h

-- a rule whose locks can be a scope is taken
pub rule_taken : (s : Standing) (f : RuleForm) (ns : List (List ℕ)) (n w : ℕ) (scope : Scope) (c : Charge) → may_follow s.before (kind_of (rule_line f ns n)) ≡ true → Scoped s ns scope → w ≡ length ns → c ≡ charge_of n → Taken s (rule_line f ns n) (add_table s (kind_of (rule_line f ns n)) w) (entry.Rule scope (record { form = f; charge = c }))
rule_taken s form.Differ ns n w scope c follows g e k = record {
  passes = scope_passes s (differ ns n) ns (is_differ s ns n follows) scope g;
  adds = (scope, g.over, ap (λ c. entry.Rule scope (record { form = form.Differ; charge = c })) k);
  moves = ap (add_table s kind.Differ) e;
}
rule_taken s form.Same ns n w scope c follows g e k = record {
  passes = scope_passes s (same ns n) ns (is_same s ns n follows) scope g;
  adds = (scope, g.over, ap (λ c. entry.Rule scope (record { form = form.Same; charge = c })) k);
  moves = ap (add_table s kind.Same) e;
}

-- of all conditions only that of room looks at the row list
other_met : (Bad Other : ℕ → RowRecord → Type 0) (s : Standing) (t : Told) (c : RecordCause) → record_number c < 7 → Met Bad c s t → Met Other c s t
other_met Bad Other s t Misplaced l m = m
other_met Bad Other s t TooMany l m = m
other_met Bad Other s t WrongName l m = m
other_met Bad Other s t NotRising l m = m
other_met Bad Other s t NoRoom l m = absurd (omega arith)

-- a line that the reader refuses with the row list left aside is refused with any row list
pub first_any : (Bad : ℕ → RowRecord → Type 0) (s : Standing) (t : Told) (cause : RecordCause) → FirstMet AnyRow cause s t → FirstMet Bad cause s t
first_any Bad s t cause f = first cause f (below cause f.met)
  where
    below : (c : RecordCause) → Met AnyRow c s t → record_number c < 7
    below Misplaced m = omega arith
    below TooMany m = omega arith
    below WrongName m = omega arith
    below NotRising m = omega arith
    below NoRoom m = absurd (room s t m)

    first : (cause : RecordCause) → FirstMet AnyRow cause s t → record_number cause < 7 → FirstMet Bad cause s t
    first cause f l = record { met = other_met AnyRow Bad s t cause l f.met; first = λ c k m. f.first c k (other_met Bad AnyRow s t c (omega arith) m) }

-- a line that passes with the row list left aside, and for whose row there is no room
pub first_room : (Bad : ℕ → RowRecord → Type 0) (s : Standing) (t : Told) → Passes AnyRow s t → HasNoRoom Bad s t → FirstMet Bad NoRoom s t
first_room Bad s t p h = record { met = h; first = below } where
  below : (c : RecordCause) → record_number c < 7 → Met Bad c s t → ⊥
  below Misplaced l m = p Misplaced m
  below TooMany l m = p TooMany m
  below WrongName l m = p WrongName m
  below NotRising l m = p NotRising m
  below NoRoom l m = omega arith
