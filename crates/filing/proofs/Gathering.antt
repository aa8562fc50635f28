-- Gathering what the lines of a text say, line by line.
use Rattle.std.proofs.Common.{◌≡◌, ℕ, ◌+◌, ◌<◌, ◌≤◌, max, true, false, List, [], ◌∷◌, ◌++◌, map, length, Some, None, Option, sym, refl, ap, ◌∙◌, subst, ⊎_elim, arith, length-append, length-take}
use borrow.Author.Tests.{clash}
use Rattle.std.proofs.lemmas.List.{length-map}
use Rattle.std.proofs.str.Laws.{order}
use Rattle.std.proofs.lemmas.Bool.Decides.{nat_tests}
use Rattle.book.specs.Lists.{Below}
use Rattle.book.specs.Scopes.{named}
use Rattle.book.specs.declared.scope.Scope.{Scope}
use Rattle.book.specs.declared.refusal.RecordCause.TheVariants.{TooMany}
use Rattle.lines.specs.Told.{Told, locks, holders, table, row, differ, same, join, bar, Named, Good}
use Rattle.lines.specs.declared.kind.Kind.{Kind}
use Rattle.lines.specs.declared.kind.Kind.TheVariants as kind
use Rattle.filing.specs.declared.draft.Draft.{Draft}
use Rattle.aggregation.specs.declared.join.Join.{Join}
use Rattle.filing.specs.declared.reader.Entry.{Entry}
use Rattle.filing.specs.declared.reader.Entry.TheVariants as entry
use Rattle.filing.specs.declared.record.RowRecord.{RowRecord}
use Rattle.filing.specs.declared.scan.Scan.{Scan}
use Rattle.filing.specs.Contents.{gather, line_scopes, Ruling, line_rules, line_joins, Pair, line_bars, scopes_of, rules_of, joins_of, bars_of, barred_in_turn, BookOf, ruled_by}
use Rattle.filing.specs.Drafts.{entry_scopes, entry_rules, entry_joins, Holds, RoomFor, Extends, noted_joins}
use Rattle.filing.specs.Follows.{may_follow, may_end, kind_code}
use Rattle.filing.specs.Judging.{Passes}
use Rattle.filing.specs.Readers.{AnyRow, Adds, Over}
use Rattle.book.specs.Layers.{bar_at}
use Rattle.book.specs.declared.refusal.Refusal.{Refusal}
use Rattle.filing.specs.declared.names.NameList.{NameList}
use Rattle.filing.specs.declared.second.Filing.{Filing}
use Rattle.filing.specs.Meanings.{lock_names, holder_names, Finished, Means}
use Rattle.filing.specs.Reading.{Accepted, Stops}
use Rattle.filing.specs.Resolving.{names_of}
use Rattle.filing.specs.Rules.{by_rules}
use Rattle.filing.specs.Written.{listed, written}
use Rattle.filing.specs.Scanning.{standing_at, Opened, Ended, Halted, Stepped}
use Rattle.book.specs.Shapes.{Fit}
use Rattle.filing.specs.Standing.{Standing, at_start, after, after_all, all_rows}
use Rattle.filing.proofs.Contents.{gather_push, SameContents, same_contents}
use Rattle.filing.proofs.Filling.{Sofar, start, onward, done, refused}
use Rattle.filing.proofs.Judged.{room}
use Rattle.filing.proofs.Verdicts.{one_verdict}
use Rattle.filing.proofs.Opening.{opened, end_opened, opened_before, Sound, sound_start, sound_more, both, follows}

-- the numbers of tables and joins

table_count : (s : Standing) (t : Told) → (after s t).tables ≡ s.tables + (length (line_scopes s t) + length (line_rules s t))
table_count s (locks ns) = omega arith
table_count s (holders ns) = omega arith
table_count s (table ns) = omega arith
table_count s (row ns n) = omega arith
table_count s (differ ns n) = omega arith
table_count s (same ns n) = omega arith
table_count s (join m n) = omega arith
table_count s (bar l h) = omega arith

join_count : (s : Standing) (t : Told) → (after s t).joins ≡ s.joins + length (line_joins s t)
join_count s (locks ns) = omega arith
join_count s (holders ns) = omega arith
join_count s (table ns) = omega arith
join_count s (row ns n) = omega arith
join_count s (differ ns n) = omega arith
join_count s (same ns n) = omega arith
join_count s (join m n) = omega arith
join_count s (bar l h) = omega arith

-- an entry that is no list comes after the lists, and leaves them

pub record Later (s : Standing) (t : Told) : Type 0 where
  pub came : opened s.before ≡ true
  pub then : opened (after s t).before ≡ true
  pub locks_stay : (after s t).locks ≡ s.locks
  pub holders_stay : (after s t).holders ≡ s.holders

pub later : (s : Standing) (t : Told) (e : Entry) → Adds s t e → (e ≡ entry.Names → ⊥) → Passes AnyRow s t → Later s t
later s (locks ns) e a n p = absurd (n a)
later s (holders ns) e a n p = absurd (n a)
later s (table ns) e a n p = record { came = opened_before s.before kind.Table (omega arith) (follows s (table ns) p); then = refl; locks_stay = refl; holders_stay = refl }
later s (row ns k) e a n p = record { came = opened_before s.before kind.Row (omega arith) (follows s (row ns k) p); then = refl; locks_stay = refl; holders_stay = refl }
later s (differ ns k) e a n p = record { came = opened_before s.before kind.Differ (omega arith) (follows s (differ ns k) p); then = refl; locks_stay = refl; holders_stay = refl }
later s (same ns k) e a n p = record { came = opened_before s.before kind.Same (omega arith) (follows s (same ns k) p); then = refl; locks_stay = refl; holders_stay = refl }
later s (join i k) e a n p = record { came = opened_before s.before kind.Join (omega arith) (follows s (join i k) p); then = refl; locks_stay = refl; holders_stay = refl }
later s (bar l h) e a n p = record { came = opened_before s.before kind.Bar (omega arith) (follows s (bar l h) p); then = refl; locks_stay = refl; holders_stay = refl }

-- the lists come first

before_lists : (b : Option Kind) (k : Kind) → kind_code k < 2 → may_follow b k ≡ true → opened b ≡ false
before_lists None k l h = refl
before_lists (Some kind.Locks) k l h = refl
before_lists (Some kind.Holders) k l h = absurd (grind (arith, nat_tests))
before_lists (Some kind.Table) k l h = absurd (grind (arith, nat_tests))
before_lists (Some kind.Row) k l h = absurd (grind (arith, nat_tests))
before_lists (Some kind.Differ) k l h = absurd (grind (arith, nat_tests))
before_lists (Some kind.Same) k l h = absurd (grind (arith, nat_tests))
before_lists (Some kind.Join) k l h = absurd (grind (arith, nat_tests))
before_lists (Some kind.Bar) k l h = absurd (grind (arith, nat_tests))

pub early : (s : Standing) (t : Told) → Adds s t entry.Names → Passes AnyRow s t → opened s.before ≡ false
early s (locks ns) a p = before_lists s.before kind.Locks (omega arith) (follows s (locks ns) p)
early s (holders ns) a p = before_lists s.before kind.Holders (omega arith) (follows s (holders ns) p)
early s (table ns) a p = absurd (let e = a.2 in cc)
early s (row ns k) a p = absurd (let e = a in cc)
early s (differ ns k) a p = absurd (let e = a.2 in cc)
early s (same ns k) a p = absurd (let e = a.2 in cc)
early s (join i k) a p = absurd (let e = a in cc)
early s (bar l h) a p = absurd (let e = a in cc)

-- room for what a line adds

below_64 : (n : ℕ) → (64 ≤ n → ⊥) → n < 64
below_64 n h = ⊎_elim (λ l. l) (λ g. absurd (h g)) (order n 64)

module _ (s : Standing) (rows : List RowRecord) (xs : List (List ℕ)) (rs : List Ruling) (js : List Join) (ps : List Pair) (H : ℕ) (d : Draft) (h : Holds (length s.locks) H rows xs rs js ps d) (tables : s.tables ≡ length xs + length rs) (joins : s.joins ≡ length js) where
  fits : (ns : List (List ℕ)) (least : ℕ) (scope : Scope) (L : ℕ) → L ≡ length s.locks → 1 ≤ least → Named least 4 ns → Over s ns scope → Fit L (named scope)
  fits ns least scope L e some g o =
      let l : length (named scope) ≡ length ns = ap length o.is ∙ simp length-map in
      record { some = omega (arith, l, g.least_so); short = omega (arith, l, g.most_so); below = subst (λ L. Below L (named scope)) (sym e) o.below }

  two : (ns : List (List ℕ)) (scope : Scope) → Named 2 2 ns → Over s ns scope → length (named scope) ≡ 2
  two ns scope g o =
      let l : length (named scope) ≡ length ns = ap length o.is ∙ simp length-map in
      omega (arith, l, g.least_so, g.most_so)

  wide : (ns : List (List ℕ)) → Named 2 2 ns → Named 2 4 ns
  wide ns g = record { names = g.names; least_so = g.least_so; most_so = omega (arith, g.most_so) }

  rules_few : s.tables < 64 → length (map (λ r. r.scope) rs) < 64
  rules_few l = simp length-map (omega (arith, tables))

  pub room_for : (t : Told) (e : Entry) → Adds s t e → Good t → Passes AnyRow s t → RoomFor d e
  room_for (locks ns) e a g p = subst (RoomFor d) (sym a) tt
  room_for (holders ns) e a g p = subst (RoomFor d) (sym a) tt
  room_for (table ns) e a g p =
      subst (RoomFor d) (sym a.2)
      (omega (arith, below_64 _ (p TooMany), tables, h.written_so.tables), fits ns 1 a.0 _ h.written_so.locks (omega arith) g a.1)
  room_for (row ns k) e a g p = subst (RoomFor d) (sym a) tt
  room_for (differ ns k) e a g p =
      subst (RoomFor d) (sym a.2)
      (omega (arith, rules_few (below_64 _ (p TooMany)), h.rules_so.tables), fits ns 2 a.0 _ h.rules_so.locks (omega arith) (wide ns g.0) a.1, two ns a.0 g.0 a.1)
  room_for (same ns k) e a g p =
      subst (RoomFor d) (sym a.2)
      (omega (arith, rules_few (below_64 _ (p TooMany)), h.rules_so.tables), fits ns 2 a.0 _ h.rules_so.locks (omega arith) (wide ns g.0) a.1, two ns a.0 g.0 a.1)
  room_for (join i k) e a g p =
      subst (RoomFor d) (sym a)
      (omega (arith, joins, ap length h.joins_so, length-take d.joins.len d.joins.at, d.joins.few, d.joins.size, ⊎_elim (λ l. l) (λ w. absurd (p TooMany w)) (order s.joins 63)))
  room_for (bar l k) e a g p = subst (RoomFor d) (sym a) tt

-- the lines so far and what is gathered of them

pub record Empty (ts : List Told) : Type 0 where
  pub scopes : scopes_of ts ≡ []
  pub rules : rules_of ts ≡ []
  pub joins : joins_of ts ≡ []
  pub bars : bars_of ts ≡ []

pub record Gathered (text : List ℕ) (rows : List RowRecord) (ts : List Told) (p : Scan) (d : Draft) : Type 0 where
  pub sofar : Sofar AnyRow text ts p
  pub sound : Sound (standing_at p)
  pub tables : (standing_at p).tables ≡ length (scopes_of ts) + length (rules_of ts)
  pub joins : (standing_at p).joins ≡ length (joins_of ts)
  pub closed : opened (standing_at p).before ≡ false → Empty ts
  pub holds : opened (standing_at p).before ≡ true → Holds (length (standing_at p).locks) (length (standing_at p).holders) rows (scopes_of ts) (rules_of ts) (joins_of ts) (bars_of ts) d

pub begin : (text : List ℕ) (rows : List RowRecord) (p : Scan) (d : Draft) → length text ≤ 65535 → Opened text p → Gathered text rows [] p d
unfolding gather
begin text rows p d short o = record {
  sofar = start AnyRow text p short o;
  sound = subst Sound (sym o.stands) sound_start;
  tables = ap (λ s. s.tables) o.stands;
  joins = ap (λ s. s.joins) o.stands;
  closed = λ _. record { scopes = refl; rules = refl; joins = refl; bars = refl };
  holds = λ h. absurd (clash (ap (λ s. opened s.before) (sym o.stands) ∙ h));
}

module _ (text : List ℕ) (rows : List RowRecord) (ts : List Told) (p : Scan) (d : Draft) (g : Gathered text rows ts p d) (q : Scan) (e : Entry) (step : Stepped p q e) where
  push : {A : Type 0} (f : Standing → Told → List A) (x : List A) → f (standing_at p) step.line ≡ x → gather f at_start (ts ++ (step.line ∷ [])) ≡ gather f at_start ts ++ x
  push f x is = gather_push f at_start ts step.line ∙ ap (λ s. gather f at_start ts ++ f s step.line) (sym g.sofar.stands) ∙ ap (λ y. gather f at_start ts ++ y) is

  here : SameContents (standing_at p) step.line e
  here = same_contents (standing_at p) step.line e step.taken.adds

  next_sofar : Sofar AnyRow text (ts ++ (step.line ∷ [])) q
  next_sofar = onward AnyRow text ts p g.sofar q e step (room (standing_at p) step.line)

  pub next_sound : Sound (standing_at q)
  next_sound = subst Sound (sym step.taken.moves) (sound_more (standing_at p) step.line g.sound step.begins.good step.taken.passes)

  next_tables : (standing_at q).tables ≡ length (scopes_of (ts ++ (step.line ∷ []))) + length (rules_of (ts ++ (step.line ∷ [])))
  next_tables =
      ap (λ s. s.tables) step.taken.moves ∙ table_count (standing_at p) step.line
      ∙ omega (arith, g.tables, ap length (push line_scopes _ refl), ap length (push line_rules _ refl), length-append (scopes_of ts) (line_scopes (standing_at p) step.line), length-append (rules_of ts) (line_rules (standing_at p) step.line))

  next_joins : (standing_at q).joins ≡ length (joins_of (ts ++ (step.line ∷ [])))
  next_joins =
      ap (λ s. s.joins) step.taken.moves ∙ join_count (standing_at p) step.line
      ∙ omega (arith, g.joins, ap length (push line_joins _ refl), length-append (joins_of ts) (line_joins (standing_at p) step.line))

  module _ (other : e ≡ entry.Names → ⊥) where
    after_lists : Later (standing_at p) step.line
    after_lists = later (standing_at p) step.line e step.taken.adds other step.taken.passes

    held_before : Holds (length (standing_at p).locks) (length (standing_at p).holders) rows (scopes_of ts) (rules_of ts) (joins_of ts) (bars_of ts) d
    held_before = g.holds after_lists.came

    pub room_here : RoomFor d e
    room_here = room_for (standing_at p) rows _ _ _ _ _ d held_before g.tables g.joins step.line e step.taken.adds step.begins.good step.taken.passes

    -- the line adds more than names
    pub add_entry : (f : Draft) → Extends d f e → Gathered text rows (ts ++ (step.line ∷ [])) q f
    add_entry f x = record {
      sofar = next_sofar;
      sound = next_sound;
      tables = next_tables;
      joins = next_joins;
      closed = λ h. absurd (clash (sym h ∙ ap (λ s. opened s.before) step.taken.moves ∙ after_lists.then));
      holds = λ _.
          subst (λ L. Holds L (length (standing_at q).holders) rows (scopes_of (ts ++ (step.line ∷ []))) (rules_of (ts ++ (step.line ∷ []))) (joins_of (ts ++ (step.line ∷ []))) (bars_of (ts ++ (step.line ∷ []))) f) (ap length (sym (ap (λ s. s.locks) step.taken.moves ∙ after_lists.locks_stay)))
          (subst (λ H. Holds (length (standing_at p).locks) H rows (scopes_of (ts ++ (step.line ∷ []))) (rules_of (ts ++ (step.line ∷ []))) (joins_of (ts ++ (step.line ∷ []))) (bars_of (ts ++ (step.line ∷ []))) f) (ap length (sym (ap (λ s. s.holders) step.taken.moves ∙ after_lists.holders_stay)))
          (subst (λ xs. Holds (length (standing_at p).locks) (length (standing_at p).holders) rows xs (rules_of (ts ++ (step.line ∷ []))) (joins_of (ts ++ (step.line ∷ []))) (bars_of (ts ++ (step.line ∷ []))) f) (sym (push line_scopes _ here.scopes))
          (subst (λ rs. Holds (length (standing_at p).locks) (length (standing_at p).holders) rows (scopes_of ts ++ entry_scopes e) rs (joins_of (ts ++ (step.line ∷ []))) (bars_of (ts ++ (step.line ∷ []))) f) (sym (push line_rules _ here.rules))
          (subst (λ js. Holds (length (standing_at p).locks) (length (standing_at p).holders) rows (scopes_of ts ++ entry_scopes e) (rules_of ts ++ entry_rules e) js (bars_of (ts ++ (step.line ∷ []))) f) (sym (push line_joins _ here.joins))
          (subst (λ ps. Holds (length (standing_at p).locks) (length (standing_at p).holders) rows (scopes_of ts ++ entry_scopes e) (rules_of ts ++ entry_rules e) (joins_of ts ++ entry_joins e) ps f) (sym (push line_bars _ here.bars))
          (x _ _ rows _ _ _ _ held_before))))));
    }

  -- the line is a list of names, and gathering begins anew
  module _ (is : e ≡ entry.Names) where
    first_lists : Empty ts
    first_lists = g.closed (early (standing_at p) step.line (subst (Adds (standing_at p) step.line) is step.taken.adds) step.taken.passes)

    still : {A : Type 0} (f : Standing → Told → List A) → gather f at_start ts ≡ [] → f (standing_at p) step.line ≡ [] → gather f at_start (ts ++ (step.line ∷ [])) ≡ []
    still f none nil = push f [] nil ∙ ap (λ l. l ++ []) none

    same_here : SameContents (standing_at p) step.line entry.Names
    same_here = subst (SameContents (standing_at p) step.line) is here

    empty_next : Empty (ts ++ (step.line ∷ []))
    empty_next = record {
      scopes = still line_scopes first_lists.scopes same_here.scopes;
      rules = still line_rules first_lists.rules same_here.rules;
      joins = still line_joins first_lists.joins same_here.joins;
      bars = still line_bars first_lists.bars same_here.bars;
    }

    pub add_names : (f : Draft) (L H : ℕ) → L ≡ max (length (standing_at q).locks) 1 → H ≡ max (length (standing_at q).holders) 1 → Holds L H rows [] [] [] [] f → Gathered text rows (ts ++ (step.line ∷ [])) q f
    add_names f L H l k h = record {
      sofar = next_sofar;
      sound = next_sound;
      tables = next_tables;
      joins = next_joins;
      closed = λ _. empty_next;
      holds = λ o.
          let some = both (standing_at q) next_sound o in
          let el : L ≡ length (standing_at q).locks = omega (arith, l, some.0) in
          let eh : H ≡ length (standing_at q).holders = omega (arith, k, some.1) in
          subst (λ L. Holds L (length (standing_at q).holders) rows (scopes_of (ts ++ (step.line ∷ []))) (rules_of (ts ++ (step.line ∷ []))) (joins_of (ts ++ (step.line ∷ []))) (bars_of (ts ++ (step.line ∷ []))) f) el
          (subst (λ H. Holds L H rows (scopes_of (ts ++ (step.line ∷ []))) (rules_of (ts ++ (step.line ∷ []))) (joins_of (ts ++ (step.line ∷ []))) (bars_of (ts ++ (step.line ∷ []))) f) eh
          (subst (λ xs. Holds L H rows xs (rules_of (ts ++ (step.line ∷ []))) (joins_of (ts ++ (step.line ∷ []))) (bars_of (ts ++ (step.line ∷ []))) f) (sym empty_next.scopes)
          (subst (λ rs. Holds L H rows [] rs (joins_of (ts ++ (step.line ∷ []))) (bars_of (ts ++ (step.line ∷ []))) f) (sym empty_next.rules)
          (subst (λ js. Holds L H rows [] [] js (bars_of (ts ++ (step.line ∷ []))) f) (sym empty_next.joins)
          (subst (λ ps. Holds L H rows [] [] [] ps f) (sym empty_next.bars) h)))));
    }

-- where the text has no next line, what is gathered is what an accepted text means

pub meant_by : (text : List ℕ) (rows : List RowRecord) (us : List Told) (p : Scan) (d : Draft) → Gathered text rows us p d → Halted p → (ts : List Told) → Accepted AnyRow text ts → rows ≡ all_rows at_start ts → (locks holders : NameList) → names_of locks.names ≡ (standing_at p).locks → names_of holders.names ≡ (standing_at p).holders → (f : Filing) → Finished d locks holders f → Means ts f
meant_by text rows us p d g halt ts acc eq ls hs le he f fin = ⊎_elim ended stopped halt
  where
    whole : us ≡ ts → may_end (standing_at p).before ≡ true → Means ts f
    whole e ends =
        let s : standing_at p ≡ after_all at_start ts = g.sofar.stands ∙ ap (after_all at_start) e in
        let h = g.holds (end_opened (standing_at p).before ends) in
        record {
          locks = ap (λ n. names_of n.names) fin.locks_so ∙ le ∙ ap (λ s. s.locks) s;
          holders = ap (λ n. names_of n.names) fin.holders_so ∙ he ∙ ap (λ s. s.holders) s;
          tables =
              subst (λ w. BookOf (written w) (length (lock_names ts)) (length (holder_names ts)) (scopes_of ts) (listed (all_rows at_start ts))) (sym fin.written_so)
              (subst (λ l. BookOf (written d.written) (length (lock_names ts)) (length (holder_names ts)) (scopes_of ts) (listed l)) eq
              (subst (λ v. BookOf (written d.written) (length (lock_names ts)) (length (holder_names ts)) (scopes_of v) (listed rows)) e
              (subst (λ q. BookOf (written d.written) (length q.locks) (length q.holders) (scopes_of us) (listed rows)) s h.written_so)));
          rules =
              subst (λ w. BookOf (by_rules w) (length (lock_names ts)) (length (holder_names ts)) (map (λ r. r.scope) (rules_of ts)) (ruled_by (length (holder_names ts)) (rules_of ts))) (sym fin.rules_so)
              (subst (λ v. BookOf (by_rules d.rules) (length (lock_names ts)) (length (holder_names ts)) (map (λ r. r.scope) (rules_of v)) (ruled_by (length (holder_names ts)) (rules_of v))) e
              (subst (λ q. BookOf (by_rules d.rules) (length q.locks) (length q.holders) (map (λ r. r.scope) (rules_of us)) (ruled_by (length q.holders) (rules_of us))) s h.rules_so));
          joins = ap noted_joins fin.joins_so ∙ h.joins_so ∙ ap joins_of e;
          bars = ap bar_at fin.bars_so ∙ h.bars_so ∙ ap (λ v. barred_in_turn (λ lock holder. false) (bars_of v)) e;
        }

    ended : Ended p → Means ts f
    ended n = whole ((one_verdict AnyRow).one_reading text us ts (done AnyRow text us p g.sofar n) acc) n.ends

    stopped : ((e : Refusal) × Stops AnyRow (standing_at p) p.place p.rest.now e) → Means ts f
    stopped r = absurd ((one_verdict AnyRow).never_both text r.0 ts us acc (refused AnyRow text us p g.sofar r.0 r.1))
