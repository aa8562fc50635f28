use Rattle.std.proofs.Common.{ltb, Bool, List, true, false, ◌≡◌, arith, rules, ℕ, IsTrue, sym, ◌↔◌}
use Rattle.std.specs.List.{IsAllAdjacentAnswer}
use Rattle.std.proofs.lemmas.Bool.{ltb-true, ltb-false}
use Rattle.std.proofs.lemmas.List.Sorted.{answers_always}
use Rattle.book.specs.Lists.{Rising}
use Rattle.book.proofs.scope.reads.is_rising.Goals as goal

told : (xs : List ℕ) (r : Bool) → IsAllAdjacentAnswer (λ x y b. b ≡ ltb x y) xs r → IsTrue r ↔ Rising xs
told xs true h = (λ _ k n. ltb-true _ _ (sym (h k 0 n)), λ _. search rules)
told xs false h = (λ t. absurd (search rules), λ r. let n = r h.0 h.1 in absurd (omega (arith, ltb-false _ _ (sym (h.2 0)))))

pub returns : goal.returns
returns c = told _ _ (c.is_sorted_by.ensures.cases ltb (answers_always _ _ _ (λ f a r g k. search rules)))
