-- A fold that gathers weights from the front gives what the recursion over the list gives.
use Rattle.std.proofs.Common.{◌≡◌, List, [], ◌∷◌, ◌++◌, sym, ap, ◌∙◌}

pub gathers_push : {X W : Type 0} (f : W → W → W) (e : W) (weight : X → W) (F : List X → W) →
    F [] ≡ e → ((x : X) (xs : List X) → F (x ∷ xs) ≡ f (weight x) (F xs)) →
    ((a b c : W) → f (f a b) c ≡ f a (f b c)) → ((a b : W) → f a b ≡ f b a) →
    (xs : List X) (x : X) → F (xs ++ (x ∷ [])) ≡ f (F xs) (weight x)
gathers_push f e weight F nil cons assoc comm [] x =
    cons x [] ∙ ap (λ w. f (weight x) w) nil ∙ comm (weight x) e ∙ ap (λ w. f w (weight x)) (sym nil)
gathers_push f e weight F nil cons assoc comm (y ∷ ys) x =
    cons y (ys ++ (x ∷ []))
    ∙ ap (λ w. f (weight y) w) (gathers_push f e weight F nil cons assoc comm ys x)
    ∙ sym (assoc (weight y) (F ys) (weight x))
    ∙ ap (λ w. f w (weight x)) (sym (cons y ys))
