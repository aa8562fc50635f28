-- Reading and setting bars.
use Rattle.std.proofs.Common.{◌≡◌, ℕ, ◌<◌, Bool, false, ◌&&◌, eqb, ltb, List, [], length, get_or, set, replicate, sym, refl, ap, ◌∙◌, subst, inl, inr, arith}
use mathlib.Core.Path.{fun_ext}
use Rattle.std.proofs.lemmas.Bool.{cases_lt, cases_eq, lt-ltb, le-ltb, eq-eqb, ne_eqb, and_from, and_left, and_right, cond-true, cond-false}
use Rattle.std.proofs.lemmas.List.{get_or_past, get_or-replicate, get_or-set_same, get_or-set_other, set_past}
use Rattle.book.specs.Layers.{bar_at, kept_pair, bar_put}

-- a new table of bars bars no pair
pub no_bars : bar_at (replicate 64 (replicate 16 false)) ≡ (λ lock holder. false)
no_bars = fun_ext (λ lock. fun_ext (λ holder. elim (cases_lt lock 64) [
  | inl h ↦ ap (λ xs. get_or xs holder false) (get_or-replicate 64 lock (replicate 16 false) [] h) ∙ no_mark holder
  | inr h ↦ ap (λ xs. get_or xs holder false) (get_or_past (replicate 64 (replicate 16 false)) lock [] h)
]))
  where
    no_mark : (holder : ℕ) → get_or (replicate 16 false) holder false ≡ false
    no_mark holder = elim (cases_lt holder 16) [ inl h ↦ get_or-replicate 16 holder false false h | inr h ↦ get_or_past (replicate 16 false) holder false h ]

-- where a pair is not the one that is set, or bars are not kept for that, it stays as it was
put_elsewhere : (bars : ℕ → ℕ → Bool) (lock holder l h : ℕ) (b : Bool) → (kept_pair lock holder && (eqb l lock && eqb h holder)) ≡ false → bars l h ≡ bar_put bars lock holder b l h
put_elsewhere bars lock holder l h b e = sym (cond-false _ b (bars l h) e)

-- a pair beyond those that bars are kept for changes none
pub put_beyond : (bars : ℕ → ℕ → Bool) (lock holder : ℕ) (b : Bool) → kept_pair lock holder ≡ false → bars ≡ bar_put bars lock holder b
put_beyond bars lock holder b e = fun_ext (λ l. fun_ext (λ h. put_elsewhere bars lock holder l h b (and_left (kept_pair lock holder) _ e)))

-- setting a holder's place in a lock's marks sets that pair
module _ (bars : List (List Bool)) (lock holder : ℕ) (b : Bool) (wide : length bars ≡ 64) (within : lock < 64) (deep : length (get_or bars lock []) ≡ 16) where
  abbrev marks : List Bool
  marks = set (get_or bars lock []) holder b

  at_lock : (h : ℕ) → get_or marks h false ≡ bar_put (bar_at bars) lock holder b lock h
  at_lock h = elim (cases_eq h holder) [
    | inl e ↦ elim (cases_lt holder 16) [
      | inl k ↦ subst (λ x. get_or marks x false ≡ bar_put (bar_at bars) lock holder b lock x) (sym e) (set_here k)
      | inr k ↦ ap (λ xs. get_or xs h false) (set_past (get_or bars lock []) holder b (omega arith)) ∙ put_elsewhere (bar_at bars) lock holder lock h b (and_left (kept_pair lock holder) _ (and_right (ltb lock 64) _ (le-ltb holder 16 k)))
    ]
    | inr n ↦ get_or-set_other (get_or bars lock []) holder h b false n ∙ put_elsewhere (bar_at bars) lock holder lock h b (and_right (kept_pair lock holder) _ (and_right (eqb lock lock) _ (ne_eqb h holder n)))
  ]
    where
      set_here : holder < 16 → get_or marks holder false ≡ bar_put (bar_at bars) lock holder b lock holder
      set_here k = get_or-set_same (get_or bars lock []) holder b false (omega arith) ∙ sym (cond-true _ b (bar_at bars lock holder) (and_from (kept_pair lock holder) _ (and_from _ _ (lt-ltb lock 64 within) (lt-ltb holder 16 k)) (and_from _ _ (eq-eqb lock lock refl) (eq-eqb holder holder refl))))

  pub set_pair : bar_at (set bars lock marks) ≡ bar_put (bar_at bars) lock holder b
  set_pair = fun_ext (λ l. fun_ext (λ h. elim (cases_eq l lock) [
    | inl e ↦ subst (λ x. bar_at (set bars lock marks) x h ≡ bar_put (bar_at bars) lock holder b x h) (sym e) (ap (λ xs. get_or xs h false) (get_or-set_same bars lock marks [] (omega arith)) ∙ at_lock h)
    | inr n ↦ ap (λ xs. get_or xs h false) (get_or-set_other bars lock l marks [] n) ∙ put_elsewhere (bar_at bars) lock holder l h b (and_right (kept_pair lock holder) _ (and_left (eqb l lock) _ (ne_eqb l lock n)))
  ]))
