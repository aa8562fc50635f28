-- What one line more adds to the contents of the lines before.
use Rattle.std.proofs.Common.{◌≡◌, ℕ, ◌+◌, ◌^◌, ◌<◌, Bool, true, ◌⊎◌, List, [], ◌∷◌, ◌++◌, map, length, get_or, None, Option, sym, refl, ap, ◌∙◌, subst, inl, inr, ⊎_elim, append_assoc, append-nil, add-zero, arith, length-append}
use Rattle.std.proofs.lemmas.List.{get_or_append_left, get_or-append-add, map-append, length-map, get_or-map}
use Rattle.std.proofs.str.Laws.{order}
use Rattle.weighing.specs.Charges.{Charge}
use Rattle.book.specs.Books.{Meaning}
use Rattle.book.specs.Layers.{bar_put}
use Rattle.lines.specs.Told.{Told, locks, holders, table, row, differ, same, join, bar}
use Rattle.filing.specs.declared.reader.Entry.{Entry}
use Rattle.filing.specs.declared.rule.RuleForm.TheVariants as form
use Rattle.filing.specs.Rules.{ruled}
use Rattle.filing.specs.Shapes.{Grown}
use Rattle.filing.specs.Standing.{Standing, after, after_all, charge_of}
use Rattle.filing.specs.Readers.{Adds}
use Rattle.filing.specs.Contents.{gather, line_scopes, Ruling, ruling, line_rules, line_joins, Pair, line_bars, barred_in_turn, BookOf, ruled_by}
use Rattle.filing.specs.Drafts.{entry_scopes, entry_rules, entry_joins, entry_bars}

pub gather_push : {A : Type 0} (f : Standing → Told → List A) (s : Standing) (ts : List Told) (t : Told) → gather f s (ts ++ (t ∷ [])) ≡ gather f s ts ++ f (after_all s ts) t
unfolding gather
gather_push f s [] t = append-nil (f s t)
gather_push f s (u ∷ ts) t = ap (λ l. f s u ++ l) (gather_push f (after s u) ts t) ∙ sym (append_assoc (f s u) (gather f (after s u) ts) _)

pub record SameContents (s : Standing) (t : Told) (e : Entry) : Type 0 where
  pub scopes : line_scopes s t ≡ entry_scopes e
  pub rules : line_rules s t ≡ entry_rules e
  pub joins : line_joins s t ≡ entry_joins e
  pub bars : line_bars s t ≡ entry_bars e

same_as : (s : Standing) (t : Told) (e f : Entry) → e ≡ f → SameContents s t f → SameContents s t e
same_as s t e f p h = subst (SameContents s t) (sym p) h

pub same_contents : (s : Standing) (t : Told) (e : Entry) → Adds s t e → SameContents s t e
same_contents s (locks ns) e a = same_as s _ e _ a (record { scopes = refl; rules = refl; joins = refl; bars = refl })
same_contents s (holders ns) e a = same_as s _ e _ a (record { scopes = refl; rules = refl; joins = refl; bars = refl })
same_contents s (table ns) e a = same_as s _ e _ a.2 (record { scopes = ap (λ x. x ∷ []) (sym a.1.is); rules = refl; joins = refl; bars = refl })
same_contents s (row ns n) e a = same_as s _ e _ a (record { scopes = refl; rules = refl; joins = refl; bars = refl })
same_contents s (differ ns n) e a = same_as s _ e _ a.2 (record { scopes = refl; rules = ap (λ x. ruling form.Differ x (charge_of n) ∷ []) (sym a.1.is); joins = refl; bars = refl })
same_contents s (same ns n) e a = same_as s _ e _ a.2 (record { scopes = refl; rules = ap (λ x. ruling form.Same x (charge_of n) ∷ []) (sym a.1.is); joins = refl; bars = refl })
same_contents s (join m n) e a = same_as s _ e _ a (record { scopes = refl; rules = refl; joins = refl; bars = refl })
same_contents s (bar l h) e a = same_as s _ e _ a (record { scopes = refl; rules = refl; joins = refl; bars = refl })

-- a book with one table more

last_of : {A : Type 0} (xs : List A) (x d : A) (t : ℕ) → t < length (xs ++ (x ∷ [])) → (t < length xs) ⊎ (t ≡ length xs)
last_of xs x d t h = ⊎_elim inl (λ g. inr (omega (arith, length-append xs (x ∷ [])))) (order t (length xs))

pub getD_last : {A : Type 0} (xs : List A) (x d : A) → get_or (xs ++ (x ∷ [])) (length xs) d ≡ x
getD_last xs x d = ap (λ k. get_or (xs ++ (x ∷ [])) k d) (sym (add-zero (length xs))) ∙ get_or-append-add xs (x ∷ []) 0 d

pub grown_book : (m n : Meaning) (L H : ℕ) (xs : List (List ℕ)) (x : List ℕ) (new : ℕ → Option Charge) (old all : ℕ → ℕ → Option Charge) → Grown m n x new → BookOf m L H xs old → ((t row : ℕ) → t < length xs → old t row ≡ all t row) → ((row : ℕ) → new row ≡ all (length xs) row) → BookOf n L H (xs ++ (x ∷ [])) all
grown_book m n L H xs x new old all g b before last = record {
  locks = g.locks ∙ b.locks;
  holders = g.holders ∙ b.holders;
  tables = g.tables ∙ ap (λ k. k + 1) b.tables ∙ sym (length-append xs (x ∷ []));
  scope = λ t h. ⊎_elim
      (λ l. g.old_scope t (omega (arith, b.tables)) ∙ b.scope t l ∙ sym (get_or_append_left xs (x ∷ []) [] t l))
      (λ e. ap n.scope (e ∙ sym b.tables) ∙ g.new_scope ∙ sym (getD_last xs x []) ∙ ap (λ k. get_or (xs ++ (x ∷ [])) k []) (sym e))
      (last_of xs x [] t h);
  charge = λ t row h r. ⊎_elim
      (λ l. g.old_charge t row (omega (arith, b.tables)) ∙ b.charge t row l (subst (λ ys. row < H ^ length ys) (get_or_append_left xs (x ∷ []) [] t l) r) ∙ before t row l)
      (λ e. ap (λ k. n.charge k row) (e ∙ sym b.tables) ∙ g.new_charge row (subst (λ h. row < h ^ length x) (sym b.holders) (subst (λ ys. row < H ^ length ys) (ap (λ k. get_or (xs ++ (x ∷ [])) k []) e ∙ getD_last xs x []) r)) ∙ last row ∙ ap (λ k. all k row) (sym e))
      (last_of xs x [] t h);
}

pub ruled_before : (H : ℕ) (rs : List Ruling) (r : Ruling) (t k : ℕ) → t < length rs → ruled_by H rs t k ≡ ruled_by H (rs ++ (r ∷ [])) t k
unfolding ruled_by
ruled_before H rs r t k h =
    ap (λ f. f k) (sym (get_or_append_left (map (λ r. ruled r.rule H) rs) (ruled r.rule H ∷ []) (λ _. None) t (simp length-map h)) ∙ ap (λ l. get_or l t (λ _. None)) (sym (map-append (λ r. ruled r.rule H) rs (r ∷ []))))

pub ruled_last : (H : ℕ) (rs : List Ruling) (r : Ruling) (k : ℕ) → ruled r.rule H k ≡ ruled_by H (rs ++ (r ∷ [])) (length rs) k
unfolding ruled_by
ruled_last H rs r k =
    ap (λ f. f k) (sym (get_or-map (λ r. ruled r.rule H) (rs ++ (r ∷ [])) (length rs) r (λ _. None) (omega (arith, length-append rs (r ∷ []))) ∙ ap (λ q. ruled q.rule H) (getD_last rs r r)))

-- one bar more

pub barred_push : (bars : ℕ → ℕ → Bool) (ps : List Pair) (p : Pair) → barred_in_turn bars (ps ++ (p ∷ [])) ≡ bar_put (barred_in_turn bars ps) p.lock p.holder true
unfolding barred_in_turn
barred_push bars [] p = refl
barred_push bars (q ∷ ps) p = barred_push (bar_put bars q.lock q.holder true) ps p
