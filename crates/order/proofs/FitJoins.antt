-- A join that has no fault, and what it keeps.
use Rattle.std.proofs.Common.{◌≡◌, ℕ, ◌+◌, ◌<◌, ◌≤◌, true, false, ◌||◌, List, None, arith}
use Rattle.std.proofs.lemmas.Bool.{and_parts, ltb-false}
use Rattle.aggregation.specs.declared.join.Join.{Join}
use Rattle.aggregation.specs.Sets.{size}
use Rattle.aggregation.specs.Nets.{Shape}
use Rattle.aggregation.specs.Trees.{Tree, node, kept}
use Rattle.aggregation.specs.Orders.{join_at, left_of, right_of, joint, unfit, wide}
use Rattle.aggregation.proofs.Listed.{size_part}
use Rattle.order.specs.Refusals.{fault}

-- no fault: neither unfit nor wide
pub no_fault : (s : Shape) (js : List Join) (i : ℕ) → fault s js i ≡ None → (unfit s js i ≡ false) × (wide s js i ≡ false)
no_fault s js i e = (grind arith, grind arith)

-- a join keeps locks of its joint scope, so at most six
kept_joint : (s : Shape) (a b : Tree) (l : ℕ) → kept s (node a b) l ≡ true → (kept s a l || kept s b l) ≡ true
unfolding kept
kept_joint s a b l h = (and_parts (kept s a l || kept s b l) _ h).0

pub kept_few : (s : Shape) (js : List Join) (i : ℕ) → wide s js i ≡ false → size s.locks (kept s (node (left_of s js i) (right_of s js i))) ≤ 6
kept_few s js i e =
    let a = size_part s.locks (kept s (node (left_of s js i) (right_of s js i))) (joint s js i) (kept_joint s (left_of s js i) (right_of s js i)) in
    let b = ltb-false _ _ e in
    omega arith

-- its sides are nodes that are made
pub sides_made : (s : Shape) (js : List Join) (i : ℕ) → fault s js i ≡ None → ((join_at js i).left < s.tables + i) × ((join_at js i).right < s.tables + i)
sides_made s js i h = let e = (no_fault s js i h).0 in (grind arith, grind arith)
