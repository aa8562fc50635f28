-- A draft with one entry more.
use Rattle.std.proofs.Common.{◌≡◌, ℕ, true, false, List, [], ◌∷◌, ◌++◌, map, length, sym, refl, ap, ◌∙◌, subst, append-nil}
use Rattle.std.proofs.lemmas.List.{map-append, length-map}
use Rattle.aggregation.specs.declared.join.Join.{Join}
use Rattle.book.specs.Books.{Meaning}
use Rattle.book.specs.Layers.{bar_at, bar_put}
use Rattle.book.specs.Scopes.{named}
use Rattle.book.specs.declared.scope.Scope.{Scope}
use Rattle.filing.specs.declared.draft.Draft.{Draft}
use Rattle.filing.specs.declared.reader.Entry.TheVariants as entry
use Rattle.filing.specs.declared.record.RowRecord.{RowRecord}
use Rattle.filing.specs.declared.rule.Rule.{Rule}
use Rattle.filing.specs.Contents.{Ruling, Pair, barred_in_turn, BookOf, ruled_by}
use Rattle.filing.specs.Drafts.{Holds, Extends, noted_joins}
use Rattle.filing.specs.Rules.{by_rules, ruled}
use Rattle.filing.specs.Shapes.{Grown}
use Rattle.filing.specs.Written.{listed, written}
use Rattle.filing.proofs.Contents.{grown_book, ruled_before, ruled_last, barred_push}

same_rules : (m : Meaning) (L H : ℕ) (rs : List Ruling) → BookOf m L H (map (λ r. r.scope) rs) (ruled_by H rs) → BookOf m L H (map (λ r. r.scope) (rs ++ [])) (ruled_by H (rs ++ []))
same_rules m L H rs b = subst (λ l. BookOf m L H (map (λ r. r.scope) l) (ruled_by H l)) (sym (append-nil rs)) b

more_rules : (m n : Meaning) (L H : ℕ) (rs : List Ruling) (r : Ruling) → Grown m n r.scope (ruled r.rule m.holders) → BookOf m L H (map (λ r. r.scope) rs) (ruled_by H rs) → BookOf n L H (map (λ r. r.scope) (rs ++ (r ∷ []))) (ruled_by H (rs ++ (r ∷ [])))
more_rules m n L H rs r g b =
    subst (λ l. BookOf n L H l (ruled_by H (rs ++ (r ∷ [])))) (sym (map-append (λ r. r.scope) rs (r ∷ [])))
    (grown_book m n L H (map (λ r. r.scope) rs) r.scope _ (ruled_by H rs) (ruled_by H (rs ++ (r ∷ []))) g b
    (λ t k h. ruled_before H rs r t k (simp length-map at h))
    (λ k. ap (λ h. ruled r.rule h k) b.holders ∙ ruled_last H rs r k ∙ ap (λ i. ruled_by H (rs ++ (r ∷ [])) i k) (sym (length_map_scope rs))))
  where
    length_map_scope : (rs : List Ruling) → length (map (λ r. r.scope) rs) ≡ length rs
    length_map_scope rs = simp length-map

module _ (d f : Draft) where
  -- what an entry leaves as it was
  same_tables : (L H : ℕ) (rows : List RowRecord) (xs : List (List ℕ)) → f.written ≡ d.written → BookOf (written d.written) L H xs (listed rows) → BookOf (written f.written) L H (xs ++ []) (listed rows)
  same_tables L H rows xs books b = subst (λ l. BookOf (written f.written) L H l (listed rows)) (sym (append-nil xs)) (subst (λ w. BookOf (written w) L H xs (listed rows)) (sym books) b)

  same_book : (L H : ℕ) (rs : List Ruling) → f.rules ≡ d.rules → BookOf (by_rules d.rules) L H (map (λ r. r.scope) rs) (ruled_by H rs) → BookOf (by_rules f.rules) L H (map (λ r. r.scope) (rs ++ [])) (ruled_by H (rs ++ []))
  same_book L H rs rules b = same_rules _ L H rs (subst (λ q. BookOf (by_rules q) L H (map (λ r. r.scope) rs) (ruled_by H rs)) (sym rules) b)

  same_joins : (js : List Join) → f.joins ≡ d.joins → noted_joins d.joins ≡ js → noted_joins f.joins ≡ js ++ []
  same_joins js joins h = ap noted_joins joins ∙ h ∙ sym (append-nil js)

  same_bars : (ps : List Pair) → f.bars ≡ d.bars → bar_at d.bars.bars ≡ barred_in_turn (λ lock holder. false) ps → bar_at f.bars.bars ≡ barred_in_turn (λ lock holder. false) (ps ++ [])
  same_bars ps bars h = ap (λ b. bar_at b.bars) bars ∙ h ∙ ap (barred_in_turn (λ lock holder. false)) (sym (append-nil ps))

  pub hold_table : (scope : Scope) → Grown (written d.written) (written f.written) (named scope) (listed d.written.rows.now (written d.written).tables) → f.written.rows.now ≡ d.written.rows.now → f.rules ≡ d.rules → f.joins ≡ d.joins → f.bars ≡ d.bars → Extends d f (entry.Table scope)
  hold_table scope g lent rules joins bars L H rows xs rs js ps h = record {
    lent = lent ∙ h.lent;
    written_so = grown_book _ _ L H xs (named scope) _ (listed rows) (listed rows) g h.written_so (λ t k l. refl) (λ k. ap (λ l. listed l (written d.written).tables k) h.lent ∙ ap (λ t. listed rows t k) h.written_so.tables);
    rules_so = same_book L H rs rules h.rules_so;
    joins_so = same_joins js joins h.joins_so;
    bars_so = same_bars ps bars h.bars_so;
  }

  pub hold_rule : (scope : Scope) (r : Rule) → Grown (by_rules d.rules) (by_rules f.rules) (named scope) (ruled r (by_rules d.rules).holders) → f.written ≡ d.written → f.joins ≡ d.joins → f.bars ≡ d.bars → Extends d f (entry.Rule scope r)
  hold_rule scope r g books joins bars L H rows xs rs js ps h = record {
    lent = ap (λ w. w.rows.now) books ∙ h.lent;
    written_so = same_tables L H rows xs books h.written_so;
    rules_so = more_rules _ _ L H rs (record { scope = named scope; rule = r }) g h.rules_so;
    joins_so = same_joins js joins h.joins_so;
    bars_so = same_bars ps bars h.bars_so;
  }

  pub hold_join : (m n : ℕ) → noted_joins f.joins ≡ noted_joins d.joins ++ (record { left = m; right = n } ∷ []) → f.written ≡ d.written → f.rules ≡ d.rules → f.bars ≡ d.bars → Extends d f (entry.Join m n)
  hold_join m n pushed books rules bars L H rows xs rs js ps h = record {
    lent = ap (λ w. w.rows.now) books ∙ h.lent;
    written_so = same_tables L H rows xs books h.written_so;
    rules_so = same_book L H rs rules h.rules_so;
    joins_so = pushed ∙ ap (λ l. l ++ (record { left = m; right = n } ∷ [])) h.joins_so;
    bars_so = same_bars ps bars h.bars_so;
  }

  pub hold_bar : (lock holder : ℕ) → bar_at f.bars.bars ≡ bar_put (bar_at d.bars.bars) lock holder true → f.written ≡ d.written → f.rules ≡ d.rules → f.joins ≡ d.joins → Extends d f (entry.Bar lock holder)
  hold_bar lock holder put books rules joins L H rows xs rs js ps h = record {
    lent = ap (λ w. w.rows.now) books ∙ h.lent;
    written_so = same_tables L H rows xs books h.written_so;
    rules_so = same_book L H rs rules h.rules_so;
    joins_so = same_joins js joins h.joins_so;
    bars_so = put ∙ ap (λ b. bar_put b lock holder true) h.bars_so ∙ sym (barred_push (λ lock holder. false) ps (record { lock = lock; holder = holder }));
  }

-- nothing is added
pub hold_none : (d : Draft) (L H : ℕ) (rows : List RowRecord) (xs : List (List ℕ)) (rs : List Ruling) (js : List Join) (ps : List Pair) → Holds L H rows xs rs js ps d → Holds L H rows (xs ++ []) (rs ++ []) (js ++ []) (ps ++ []) d
hold_none d L H rows xs rs js ps h = record {
  lent = h.lent;
  written_so = subst (λ l. BookOf (written d.written) L H l (listed rows)) (sym (append-nil xs)) h.written_so;
  rules_so = same_rules _ L H rs h.rules_so;
  joins_so = h.joins_so ∙ sym (append-nil js);
  bars_so = h.bars_so ∙ ap (barred_in_turn (λ lock holder. false)) (sym (append-nil ps));
}
