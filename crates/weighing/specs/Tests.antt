use Rattle.std.specs.Prelude.{◌≡◌, Bool, true}
use Rattle.std.proofs.Common.{sym, ◌∙◌}

-- a test that says yes exactly when P holds
pub record Tells (P : Type 0) (answer : Bool) : Type 0 where
  pub sound : answer ≡ true → P
  pub full : P → answer ≡ true

-- an answer that is one with a test's tells the same
pub tells_as : {P : Type 0} {answer test : Bool} → Tells P test → answer ≡ test → Tells P answer
tells_as h e = record { sound = λ y. h.sound (sym e ∙ y); full = λ p. e ∙ h.full p }
