-- Joined books have the tables of the first and then those of the second.
use Rattle.std.proofs.Common.{◌≡◌, ℕ, ◌+◌, ◌-◌, true, false, refl, ap, ◌∙◌, inl, inr, arith}
use Rattle.std.proofs.lemmas.Bool.{eq-eqb, le-leb, lt-ltb, le-ltb, both_ways, and_from, cases_Bool, cond-true, cond-false}
use Rattle.book.specs.Books.{Meaning}
use Rattle.book.specs.Layers.{Together, together, beside, InTurn, JoinedTables}
use Rattle.book.specs.Ranges.{together_true}

-- the test says yes of books that go together
pub true_together : (m n : Meaning) → Together m n → together m n ≡ true
true_together m n e = and_from _ _ (eq-eqb _ _ e.locks) (and_from _ _ (eq-eqb _ _ e.holders) (le-leb _ _ e.few))

pub together_false : (m n : Meaning) → together m n ≡ false → Together m n → ⊥
together_false m n e t = both_ways (together m n) e (true_together m n t)

-- the second book's table t stands at place t behind the first's
behind : (k t : ℕ) → k + t - k ≡ t
behind k t = omega arith

in_turn : (m n : Meaning) → Together m n → InTurn m n (beside m n)
in_turn m n e = record {
  locks = (refl, e.locks);
  holders = (refl, e.holders);
  tables = refl;
  first_scope = λ t h. cond-true _ _ _ (lt-ltb t m.tables h);
  first_charge = λ t row h. cond-true _ _ _ (lt-ltb t m.tables h);
  second_scope = λ t. cond-false _ _ _ (le-ltb (m.tables + t) m.tables (omega arith)) ∙ ap n.scope (behind m.tables t);
  second_charge = λ t row. cond-false _ _ _ (le-ltb (m.tables + t) m.tables (omega arith)) ∙ ap (λ k. n.charge k row) (behind m.tables t);
}

pub joined_tables : JoinedTables
joined_tables m n = (
  λ e. rw (cond-true (together m n) (beside m n) m (true_together m n e)) (in_turn m n e),
  λ apart. elim (cases_Bool (together m n)) [ inl e ↦ absurd (apart (together_true m n e)) | inr e ↦ cond-false _ _ _ e ],
)
