-- What the check knows of each node, and how a join adds one.
use Rattle.std.proofs.Common.{◌≡◌, ℕ, ◌+◌, ◌<◌, true, false, ◌||◌, eqb, List, ◌++◌, length, set, None, sym, refl, ap, ◌∙◌, subst, ap₂, add-one, arith}
use mathlib.Core.Path.{fun_ext}
use Rattle.std.proofs.lemmas.Bool.{ne_eqb}
use Rattle.std.proofs.lemmas.List.{get_or_append_left}
use Rattle.aggregation.specs.declared.join.Join.{Join}
use Rattle.aggregation.specs.Sets.{Set, ◌∪◌, ◌∩◌, un}
use Rattle.aggregation.specs.Nets.{Shape, scopes, occ, has}
use Rattle.aggregation.specs.Trees.{node, under, kept}
use Rattle.aggregation.specs.Orders.{join_at, forest, left_of, right_of}
use Rattle.aggregation.proofs.Grown.{forest_new}
use Rattle.order.specs.declared.nodes.Node.{Node}
use Rattle.order.specs.Marked.{marked, no_node, under_at, keeps_at}
use Rattle.order.specs.Known.{Known}
use Rattle.order.specs.Refusals.{fault}
use Rattle.order.proofs.Places.{places_more}
use Rattle.order.proofs.FitJoins.{sides_made}

-- a table more, that is in the set or is not
pub occ_in : (scope : ℕ → Set) (t : ℕ) (u m : Set) → u t ≡ true → scope t ≡ m → m ∪ occ scope t u ≡ occ scope (t + 1) u
unfolding occ
occ_in scope t u m h e = rw add-one (fun_ext (λ l. rw h (ap (λ (x : Set). x l || occ scope t u l) (sym e))))

pub occ_out : (scope : ℕ → Set) (t : ℕ) (u : Set) → u t ≡ false → occ scope t u ≡ occ scope (t + 1) u
unfolding occ
occ_out scope t u h = rw add-one (fun_ext (λ l. rw h refl))

-- the nodes before the one that a join makes
forest_old : (T : ℕ) (js : List Join) (i k : ℕ) → (k ≡ T + i → ⊥) → forest T js (i + 1) k ≡ forest T js i k
unfolding forest
forest_old T js i k h = rw (add-one, ne_eqb k (T + i) h) refl

-- before any join each node is a table, so only as many of the first nodes matter
pub known_none : (s : Shape) (js : List Join) (ns rest : List Node) → length ns ≡ s.tables → ((k : ℕ) → k < s.tables → under_at ns k ≡ (λ u. eqb u k)) → ((k : ℕ) → k < s.tables → keeps_at ns k ≡ scopes s k) → Known s js 0 (ns ++ rest)
unfolding forest under kept
known_none s js ns rest z p q = record {
  unders = λ k h. ap (λ (n : Node). marked n.under) (get_or_append_left ns rest no_node k (omega arith)) ∙ p k (omega arith);
  keeps = λ k h. ap (λ (n : Node). marked n.keeps) (get_or_append_left ns rest no_node k (omega arith)) ∙ q k (omega arith);
}

-- after one join more, which makes the node at the next place
pub known_more : (s : Shape) (js : List Join) (i at : ℕ) (ns : List Node) (n : Node) → at ≡ s.tables + i → at < length ns → Known s js i ns
    → marked n.under ≡ under (node (left_of s js i) (right_of s js i)) → marked n.keeps ≡ kept s (node (left_of s js i) (right_of s js i))
    → Known s js (i + 1) (set ns at n)
known_more s js i at ns n z p before d e = subst (λ k. Known s js (i + 1) (set ns k n)) (sym z) (record {
  unders = λ k t. places_more (λ (m : Node). marked m.under) no_node (λ k. under (forest T js (i + 1) k)) ns (T + i) n (omega arith) (d ∙ ap under (sym (forest_new s js i))) (λ k t. before.unders k t ∙ ap under (sym (old k t))) k (omega arith);
  keeps = λ k t. places_more (λ (m : Node). marked m.keeps) no_node (λ k. kept s (forest T js (i + 1) k)) ns (T + i) n (omega arith) (e ∙ ap (kept s) (sym (forest_new s js i))) (λ k t. before.keeps k t ∙ ap (kept s) (sym (old k t))) k (omega arith);
})
  where
    T : ℕ
    T = s.tables

    old : (k : ℕ) → k < T + i → forest T js (i + 1) k ≡ forest T js i k
    old k t = forest_old T js i k (λ z. omega arith)

-- the tables beneath the node that the next join makes
pub new_under : (s : Shape) (js : List Join) (i : ℕ) (ns : List Node) (m : Set) → fault s js i ≡ None → Known s js i ns
    → m ≡ under_at ns (join_at js i).left ∪ under_at ns (join_at js i).right → m ≡ under (node (left_of s js i) (right_of s js i))
unfolding under
new_under s js i ns m h known e = let sides = sides_made s js i h in e ∙ ap₂ (λ (x y : Set). x ∪ y) (known.unders (join_at js i).left sides.0) (known.unders (join_at js i).right sides.1)

-- and the locks that it keeps
pub new_keeps : (s : Shape) (js : List Join) (i : ℕ) (ns : List Node) (m joint u : Set) → fault s js i ≡ None → Known s js i ns
    → joint ≡ keeps_at ns (join_at js i).left ∪ keeps_at ns (join_at js i).right → u ≡ under (node (left_of s js i) (right_of s js i)) → m ≡ joint ∩ has s (un u)
    → m ≡ kept s (node (left_of s js i) (right_of s js i))
unfolding under kept
new_keeps s js i ns m joint u h known j d e =
    let sides = sides_made s js i h in
    let both : joint ≡ kept s (left_of s js i) ∪ kept s (right_of s js i) = j ∙ ap₂ (λ (x y : Set). x ∪ y) (known.keeps (join_at js i).left sides.0) (known.keeps (join_at js i).right sides.1) in
    e ∙ ap₂ (λ (x y : Set). x ∩ has s (un y)) both d
