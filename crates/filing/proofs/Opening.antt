-- The two lists come first and stay, and what stands is sound.
use Rattle.std.proofs.Common.{◌≡◌, ℕ, ◌<◌, ◌≤◌, Bool, true, false, ◌||◌, eqb, List, [], length, get_or, Some, None, Option, refl, subst, ⊎_elim, arith, rules, eqb-true}
use borrow.Author.Tests.{clash}
use Rattle.std.proofs.str.Laws.{order}
use Rattle.book.specs.declared.refusal.RecordCause.TheVariants.{Misplaced, TooMany, WrongName}
use Rattle.lines.specs.Told.{Told, locks, holders, table, row, differ, same, join, bar, kind_of, Good}
use Rattle.lines.specs.declared.kind.Kind.{Kind}
use Rattle.lines.specs.declared.kind.Kind.TheVariants as kind
use Rattle.filing.specs.Follows.{may_follow, may_end, kind_code}
use Rattle.filing.specs.Standing.{Standing, at_start, after}
use Rattle.filing.specs.Judging.{Twice, Passes}
use Rattle.filing.specs.Readers.{AnyRow}
use Rattle.filing.specs.Resolving.{Listing}

-- both lists have been read
abbrev pub opened : Option Kind → Bool
opened None = false
opened (Some kind.Locks) = false
opened (Some kind.Holders) = true
opened (Some kind.Table) = true
opened (Some kind.Row) = true
opened (Some kind.Differ) = true
opened (Some kind.Same) = true
opened (Some kind.Join) = true
opened (Some kind.Bar) = true

-- a test of one code in a list of one kind
either : (m n : ℕ) → eqb m n || false ≡ true → m ≡ n
either m n h = eqb-true m n (search (rules, h))

pub end_opened : (b : Option Kind) → may_end b ≡ true → opened b ≡ true
end_opened None h = h
end_opened (Some kind.Locks) h = h
end_opened (Some kind.Holders) h = refl
end_opened (Some kind.Table) h = refl
end_opened (Some kind.Row) h = refl
end_opened (Some kind.Differ) h = refl
end_opened (Some kind.Same) h = refl
end_opened (Some kind.Join) h = refl
end_opened (Some kind.Bar) h = refl

-- after a list or at the start only a list may come
pub opened_before : (b : Option Kind) (k : Kind) → 2 ≤ kind_code k → may_follow b k ≡ true → opened b ≡ true
opened_before None k l h = absurd (omega (arith, either (kind_code k) 0 h))
opened_before (Some kind.Locks) k l h = absurd (omega (arith, either (kind_code k) 1 h))
opened_before (Some kind.Holders) k l h = refl
opened_before (Some kind.Table) k l h = refl
opened_before (Some kind.Row) k l h = refl
opened_before (Some kind.Differ) k l h = refl
opened_before (Some kind.Same) k l h = refl
opened_before (Some kind.Join) k l h = refl
opened_before (Some kind.Bar) k l h = refl

after_locks : (b : Option Kind) → may_follow b kind.Holders ≡ true → b ≡ Some kind.Locks
after_locks None h = absurd (clash h)
after_locks (Some kind.Locks) h = refl
after_locks (Some kind.Holders) h = absurd (clash h)
after_locks (Some kind.Table) h = absurd (clash h)
after_locks (Some kind.Row) h = absurd (clash h)
after_locks (Some kind.Differ) h = absurd (clash h)
after_locks (Some kind.Same) h = absurd (clash h)
after_locks (Some kind.Join) h = absurd (clash h)
after_locks (Some kind.Bar) h = absurd (clash h)

-- what the lists hold by then
abbrev So : Option Kind → Standing → Type 0
So None s = Unit {0}
So (Some kind.Locks) s = 0 < length s.locks
So (Some kind.Holders) s = (0 < length s.locks) × (0 < length s.holders)
So (Some kind.Table) s = (0 < length s.locks) × (0 < length s.holders)
So (Some kind.Row) s = (0 < length s.locks) × (0 < length s.holders)
So (Some kind.Differ) s = (0 < length s.locks) × (0 < length s.holders)
So (Some kind.Same) s = (0 < length s.locks) × (0 < length s.holders)
So (Some kind.Join) s = (0 < length s.locks) × (0 < length s.holders)
So (Some kind.Bar) s = (0 < length s.locks) × (0 < length s.holders)

so_both : (b : Option Kind) (s : Standing) → opened b ≡ true → So b s → (0 < length s.locks) × (0 < length s.holders)
so_both None s o h = absurd (clash o)
so_both (Some kind.Locks) s o h = absurd (clash o)
so_both (Some kind.Holders) s o h = h
so_both (Some kind.Table) s o h = h
so_both (Some kind.Row) s o h = h
so_both (Some kind.Differ) s o h = h
so_both (Some kind.Same) s o h = h
so_both (Some kind.Join) s o h = h
so_both (Some kind.Bar) s o h = h

-- what stands is sound: the lists are, and they have come in their turn
pub record Sound (s : Standing) : Type 0 where
  pub so : So s.before s
  pub locks_listed : Listing 64 s.locks
  pub holders_listed : Listing 16 s.holders

pub both : (s : Standing) → Sound s → opened s.before ≡ true → (0 < length s.locks) × (0 < length s.holders)
both s h o = so_both s.before s o h.so

pub sound_start : Sound at_start
sound_start = record {
  so = tt;
  locks_listed = record { few = omega arith; formed = tt; apart = λ j k l h. absurd (omega arith) };
  holders_listed = record { few = omega arith; formed = tt; apart = λ j k l h. absurd (omega arith) };
}

at_most : (m n : ℕ) → (m < n → ⊥) → n ≤ m
at_most m n h = ⊎_elim (λ l. absurd (h l)) (λ g. g) (order m n)

true_from : (b : Bool) → (b ≡ false → ⊥) → b ≡ true
true_from true h = refl
true_from false h = absurd (h refl)

pub follows : (s : Standing) (t : Told) → Passes AnyRow s t → may_follow s.before (kind_of t) ≡ true
follows s t p = true_from _ (p Misplaced)

none_twice : (ns : List (List ℕ)) → (Twice ns → ⊥) → (j k : ℕ) → j < k → k < length ns → get_or ns j [] ≡ get_or ns k [] → ⊥
none_twice ns h j k l w e = h (record { one = j; other = k; apart = l; within = w; equal = e })

pub sound_more : (s : Standing) (t : Told) → Sound s → Good t → Passes AnyRow s t → Sound (after s t)
sound_more s (locks ns) h g p = record { so = g.some; locks_listed = record { few = at_most 64 _ (p TooMany); formed = g.names; apart = none_twice ns (p WrongName) }; holders_listed = h.holders_listed }
sound_more s (holders ns) h g p = record {
  so = (subst (λ b. So b s) (after_locks s.before (follows s (holders ns) p)) h.so, g.some);
  locks_listed = h.locks_listed;
  holders_listed = record { few = at_most 16 _ (p TooMany); formed = g.names; apart = none_twice ns (p WrongName) };
}
sound_more s (table ns) h g p = record { so = both s h (opened_before s.before kind.Table (omega arith) (follows s (table ns) p)); locks_listed = h.locks_listed; holders_listed = h.holders_listed }
sound_more s (row ns n) h g p = record { so = both s h (opened_before s.before kind.Row (omega arith) (follows s (row ns n) p)); locks_listed = h.locks_listed; holders_listed = h.holders_listed }
sound_more s (differ ns n) h g p = record { so = both s h (opened_before s.before kind.Differ (omega arith) (follows s (differ ns n) p)); locks_listed = h.locks_listed; holders_listed = h.holders_listed }
sound_more s (same ns n) h g p = record { so = both s h (opened_before s.before kind.Same (omega arith) (follows s (same ns n) p)); locks_listed = h.locks_listed; holders_listed = h.holders_listed }
sound_more s (join m n) h g p = record { so = both s h (opened_before s.before kind.Join (omega arith) (follows s (join m n) p)); locks_listed = h.locks_listed; holders_listed = h.holders_listed }
sound_more s (bar l k) h g p = record { so = both s h (opened_before s.before kind.Bar (omega arith) (follows s (bar l k) p)); locks_listed = h.locks_listed; holders_listed = h.holders_listed }
