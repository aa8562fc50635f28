use Rattle.std.proofs.Common.{◌≡◌, ℕ, ◌<◌, ◌≤◌, Bool, true, false, cond, Some, None, Option, MatchOption, sym, ap, ◌∙◌, subst, rules, arith}
use Rattle.std.proofs.lemmas.Iterator.{first_from_Range}
use borrow.Author.Tests.{tests}
use Rattle.book.specs.declared.refusal.OrderCause.TheVariants.{BareLock}
use Rattle.aggregation.specs.Sets.{Set, un}
use Rattle.aggregation.specs.Nets.{Shape, has}
use Rattle.order.specs.BookShapes.{shape_in}
use Rattle.order.specs.Firsts.{first}
use Rattle.order.specs.Marked.{marked}
use Rattle.order.specs.Refusals.{refused_at, bare}
use Rattle.order.proofs.FirstOf.{first_empty, first_found}
use Rattle.order.proofs.checks.no_bare_lock.Goals as goal

-- the test of a lock says whether it is bare
tested : (s : Shape) (m n : Set) (l : ℕ) (b : Bool) → m l ≡ b → m ≡ has s (un n) → n ≡ (λ t. false) → bare s l ≡ cond b None (Some (refused_at l BareLock))
tested s m n l b e p q = ap (λ (x : Bool). cond x None (Some (refused_at l BareLock))) (sym (sym e ∙ ap (λ (x : Set). x l) (p ∙ ap (λ (x : Set). has s (un x)) q)))

-- the first lock that is not covered
abbrev Uncovered : Set → ℕ → Option ℕ → Type 0
Uncovered m n o = MatchOption o ((k : ℕ) → 0 ≤ k → k < n → m k ≡ true) (λ i. (0 ≤ i) × (i < n) × (m i ≡ false) × ((k : ℕ) → 0 ≤ k → k < i → m k ≡ true))

-- it is the first bare lock
abbrev Bare : Shape → Option ℕ → Type 0
Bare s o = MatchOption o (first (bare s) s.locks ≡ None) (λ l. first (bare s) s.locks ≡ Some (refused_at l BareLock))

searched : (s : Shape) (m n : Set) (o : Option ℕ) → m ≡ has s (un n) → n ≡ (λ t. false) → Uncovered m s.locks o → Bare s o
searched s m n None p q f = first_empty (bare s) s.locks (λ l h. tested s m n l true (f l (omega arith) h) p q)
searched s m n (Some l) p q f = first_found (bare s) l s.locks (refused_at l BareLock) f.1 (first_empty (bare s) l (λ k h. tested s m n k true (f.3 k (omega arith) h) p q)) (tested s m n l false f.2 p q)

pub returns-in-Some : goal.returns-in-Some
returns-in-Some c =
    let s = shape_in c.args.shape.now in
    let m = marked c.outside-covered.result in
    let found = first_from_Range _ _ _ c.find.result (λ l. m l ≡ false) (λ l. m l ≡ true) c.find.ensures.ran (λ x q k. search (rules, tests)) (λ x q k. search (rules, tests)) in
    let held : Bare s c.find.result = searched s m (marked c.none.result) c.find.result c.outside-covered.ensures c.none.ensures (subst (λ n. Uncovered m n c.find.result) c.locks.ensures.value found) in
    subst (Bare s) c.in-Some.is held ∙ sym (ap Some c.refuse.ensures)

pub returns-in-None : goal.returns-in-None
returns-in-None c =
    let s = shape_in c.args.shape.now in
    let m = marked c.outside-covered.result in
    let found = first_from_Range _ _ _ c.find.result (λ l. m l ≡ false) (λ l. m l ≡ true) c.find.ensures.ran (λ x q k. search (rules, tests)) (λ x q k. search (rules, tests)) in
    let held : Bare s c.find.result = searched s m (marked c.none.result) c.find.result c.outside-covered.ensures c.none.ensures (subst (λ n. Uncovered m n c.find.result) c.locks.ensures.value found) in
    subst (Bare s) c.in-None.is held
