-- Names and lists of names: a spelling has one list, which is the pieces between its commas.
use Rattle.std.proofs.Common.{◌≡◌, ℕ, ◌<◌, ◌≤◌, Bool, true, false, eqb, ◌⊎◌, List, [], ◌∷◌, ◌++◌, length, get_or, take, drop, ◌+◌, Option, None, Some, MatchOption, Bor, sym, refl, ap, ◌∙◌, subst, ⊎_elim, arith, MatchBool, length-take-le, take-append-drop}
use Rattle.std.specs.Bool.{then_some}
use Rattle.std.specs.List.{AllByRecursion, AllWithin, HoldsAt, slice_get}
use Rattle.std.specs.Option.{option_map}
use Rattle.std.proofs.lemmas.List.{drop_more, get_or-take}
use Rattle.std.proofs.lemmas.List.Elements.{All-nil, All-cons, All-weaker, All-from_get_or}
use Rattle.std.proofs.lemmas.List.Splits.{slice_split_none, slice_split_at, length-slice_split, join_with_byte-slice_split}
use Rattle.std.proofs.lemmas.Option.{slice_get_cases, slice_get_within, get_or_from_slice_get}
use Rattle.weighing.specs.Tests.{Tells}
use Rattle.lines.specs.Names.{name_byte, NameBytes, Name, NameEnds, AllNamed, joined, pieces, FirstAt, Absent}
use Rattle.lines.specs.Told.{held, SomeNamed, Named}
use Rattle.lines.specs.Bodies.{NoNames, NoFew}
use Rattle.lines.specs.Cuts.{Lacks, Cut}
use Rattle.lines.specs.declared.names.Names.{Names}
use Rattle.lines.proofs.Cutting.{none_is, lacks_between, lacks_cut}

no_name : (c b : ℕ) → name_byte c ≡ false → name_byte b ≡ true → b ≡ c → ⊥
no_name c b p q e = let h = ap name_byte e in cc

pub lacks_name : (c : ℕ) → name_byte c ≡ false → (n : List ℕ) → NameBytes n → Lacks c n
lacks_name c p n h = All-weaker (λ b. name_byte b ≡ true) _ (λ b k. no_name c b p k) n h

pub lacks_joined : (c : ℕ) → name_byte c ≡ false → (44 ≡ c → ⊥) → (ns : List (List ℕ)) → AllByRecursion Name ns → Lacks c (joined ns)
lacks_joined c p q [] a = All-nil (λ b. b ≡ c → ⊥)
lacks_joined c p q (n ∷ []) a = lacks_name c p n a.0.bytes
lacks_joined c p q (n ∷ m ∷ ns) a = lacks_between c 44 n (joined (m ∷ ns)) q (lacks_name c p n a.0.bytes) (lacks_joined c p q (m ∷ ns) a.1)

-- pieces undoes joined
pub pieces_joined : (ns : List (List ℕ)) → SomeNamed ns → pieces (joined ns) ≡ ns
pieces_joined ns s = of ns s.some s.names where
  of : (ns : List (List ℕ)) → 1 ≤ length ns → AllByRecursion Name ns → pieces (joined ns) ≡ ns
  of [] some a = absurd (omega arith)
  of (n ∷ []) some a = slice_split_none (λ b. eqb b 44) n (none_is 44 n (lacks_name 44 refl n a.0.bytes))
  of (n ∷ m ∷ ns) some a =
      slice_split_at (λ b. eqb b 44) n 44 (joined (m ∷ ns)) (none_is 44 n (lacks_name 44 refl n a.0.bytes)) refl ∙ ap (λ l. n ∷ l) (of (m ∷ ns) (omega arith) a.1)

-- and joined undoes pieces
pub joined_pieces : (bs : List ℕ) → joined (pieces bs) ≡ bs
joined_pieces bs = join_with_byte-slice_split 44 bs

-- there is a piece, and at most one more of them than bytes
pub some_piece : (bs : List ℕ) → 1 ≤ length (pieces bs)
some_piece bs = omega (arith, length-slice_split (λ b. eqb b 44) bs)

-- names spell the bytes where each piece is a name, and nowhere else
pub some_of : (n : Names) (r : Bool) → Tells (AllNamed n.bytes.now) r → MatchOption (then_some r n) (NoNames n.bytes.now) (λ m. SomeNamed (held m) × (n.bytes.now ≡ joined (held m)))
some_of n true h = (record { names = h.sound refl; some = some_piece n.bytes.now }, sym (joined_pieces n.bytes.now))
some_of n false h = λ ns s e. let no = h.full (subst (AllByRecursion Name) (sym (ap pieces e ∙ pieces_joined ns s)) s.names) in cc

-- what `position` says of a name
pub place_of : (ns : List (List ℕ)) (name : List ℕ) (r : Option ℕ) → MatchOption r (AllWithin (λ n. n ≡ name → ⊥) ns 0 (length ns)) (λ i. (i < length ns) × HoldsAt (λ n. n ≡ name) ns i × AllWithin (λ n. n ≡ name → ⊥) ns 0 i) → MatchOption r (Absent ns name) (λ i. FirstAt ns name i)
place_of ns name None h = λ k l. h k [] (omega arith) l
place_of ns name (Some i) h = record { within = h.0; here = h.1 []; before = λ k l. h.2 k [] (omega arith) l }

-- what `nth` says of a name
pub name_at : (ns : List (List ℕ)) (i : ℕ) (r : Option (Bor (List ℕ))) → option_map (λ s. s.now) r ≡ slice_get ns i → MatchOption r (length ns ≤ i) (λ s. (i < length ns) × (s.now ≡ get_or ns i []))
name_at ns i None h = ⊎_elim (λ w. absurd (let e : None ≡ Some w.0 = h ∙ w.2 in cc)) (λ w. w.0) (slice_get_cases ns i).1
name_at ns i (Some s) h = (slice_get_within ns i s.now (sym h), sym (get_or_from_slice_get ns i s.now [] (sym h)))

-- so many names of those that spell the bytes, or not so many
pub few_of : (least most : ℕ) (bs : List ℕ) (n : Names) → 0 < least → SomeNamed (held n) × (bs ≡ joined (held n)) → (r : Bool) → MatchBool r ((least ≤ length (held n)) × (length (held n) ≤ most)) ((length (held n) < least) ⊎ (most < length (held n))) → MatchOption (then_some r n) (NoFew least most bs) (λ n. Named least most (held n) × (bs ≡ joined (held n)))
few_of least most bs n some h true t = (record { names = h.0.names; least_so = t.0; most_so = t.1 }, h.1)
few_of least most bs n some h false t = λ ns g e.
    let same : pieces bs ≡ ns = ap pieces e ∙ pieces_joined ns (record { names = g.names; some = omega (arith, g.least_so) }) in
    let l = ap length (sym (ap pieces h.1 ∙ pieces_joined (held n) h.0) ∙ same) in
    ⊎_elim (λ p. omega (arith, g.least_so)) (λ p. omega (arith, g.most_so)) t

-- where no cut is, the bytes lack c
uncut : (c : ℕ) (bs : List ℕ) → ((x y : List ℕ) → bs ≡ x ++ (c ∷ y) → ⊥) → Lacks c bs
uncut c [] h = All-nil (λ b. b ≡ c → ⊥)
uncut c (b ∷ bs) h = All-cons (λ b. b ≡ c → ⊥) b bs (λ e. h [] bs (ap (λ d. d ∷ bs) e)) (uncut c bs (λ x y e. h (b ∷ x) y (ap (λ l. b ∷ l) e)))

-- the bytes without a comma are one name, and others are the name before the first comma and what follows it
pub last_name : (bs : List ℕ) → ((x y : List ℕ) → bs ≡ x ++ (44 ∷ y) → ⊥) → pieces bs ≡ bs ∷ []
last_name bs h = slice_split_none (λ b. eqb b 44) bs (none_is 44 bs (uncut 44 bs h))

pub next_name : (bs front back : List ℕ) → Cut 44 bs front back → pieces bs ≡ front ∷ pieces back
next_name bs front back cut = ap pieces cut.whole ∙ slice_split_at (λ b. eqb b 44) front 44 back (none_is 44 front cut.first) refl

-- the pieces of one are all names where those of the other are
pub record SameNaming (bytes rest : List ℕ) : Type 0 where
  pub forth : AllNamed bytes → AllNamed rest
  pub back : AllNamed rest → AllNamed bytes

-- what `position` says of the first byte that no name has
pub end_found : (bs : List ℕ) (r : Option ℕ) → MatchOption r (AllWithin (λ b. name_byte b ≡ true) bs 0 (length bs)) (λ i. (i < length bs) × HoldsAt (λ b. name_byte b ≡ false) bs i × AllWithin (λ b. name_byte b ≡ true) bs 0 i) → MatchOption r (NameBytes bs) (λ i. NameEnds bs i)
end_found bs None h = All-from_get_or (λ b. name_byte b ≡ true) bs 0 (λ k l. h k 0 (omega arith) l)
end_found bs (Some i) h = record {
  within = h.0;
  here = h.1 0;
  front = All-from_get_or (λ b. name_byte b ≡ true) (take i bs) 0 (λ k l. let m : k < i = omega (arith, length-take-le i bs (omega arith)) in rw (get_or-take i bs k 0 m) (h.2 k 0 (omega arith) m));
}

-- the bytes around that place
end_whole : (rest : List ℕ) (i : ℕ) → NameEnds rest i → rest ≡ take i rest ++ (get_or rest i 0 ∷ drop (i + 1) rest)
end_whole rest i s = sym (take-append-drop i rest) ∙ ap (λ t. take i rest ++ t) (drop_more rest i 0 s.within)

-- a byte that is no comma either makes the bytes no names
pub no_comma : (rest : List ℕ) (i : ℕ) → NameEnds rest i → (get_or rest i 0 ≡ 44 → ⊥) → AllNamed rest → ⊥
no_comma rest i s apart a =
    let c = get_or rest i 0 in
    lacks_cut rest (take i rest) (drop (i + 1) rest) c (subst (Lacks c) (joined_pieces rest) (lacks_joined c s.here (λ e. apart (sym e)) (pieces rest) a)) (end_whole rest i s)

-- a comma there ends the first piece
first_piece : (rest : List ℕ) (i : ℕ) → NameEnds rest i → get_or rest i 0 ≡ 44 → pieces rest ≡ take i rest ∷ pieces (drop (i + 1) rest)
first_piece rest i s e =
    next_name rest (take i rest) (drop (i + 1) rest) (record { whole = end_whole rest i s ∙ ap (λ b. take i rest ++ (b ∷ drop (i + 1) rest)) e; first = lacks_name 44 refl (take i rest) s.front })

-- and so does a comma where no name ends
pub no_length : (rest : List ℕ) (i : ℕ) → NameEnds rest i → get_or rest i 0 ≡ 44 → ((i ≡ 0) ⊎ (24 < i)) → AllNamed rest → ⊥
no_length rest i s e w a =
    let name = (subst (AllByRecursion Name) (first_piece rest i s e) a).0 in
    let long = length-take-le i rest (omega (arith, s.within)) in
    ⊎_elim (λ z. omega (arith, name.some)) (λ z. omega (arith, name.short)) w

-- behind a name and its comma it is for the rest to say
pub next_same : (bytes rest : List ℕ) (i : ℕ) → SameNaming bytes rest → NameEnds rest i → get_or rest i 0 ≡ 44 → 0 < i → i ≤ 24 → SameNaming bytes (drop (i + 1) rest)
next_same bytes rest i same s e some short =
    let long = length-take-le i rest (omega (arith, s.within)) in
    let first = first_piece rest i s e in
    record {
      forth = λ a. (subst (AllByRecursion Name) first (same.forth a)).1;
      back = λ a. same.back (subst (AllByRecursion Name) (sym first) (record { some = omega arith; short = omega arith; bytes = s.front }, a));
    }

-- name bytes alone are one piece
pub one_piece : (rest : List ℕ) → NameBytes rest → pieces rest ≡ rest ∷ []
one_piece rest h = slice_split_none (λ b. eqb b 44) rest (none_is 44 rest (lacks_name 44 refl rest h))

-- what a test of the rest tells of the bytes
pub told_last : (bytes rest : List ℕ) (r : Bool) → SameNaming bytes rest → pieces rest ≡ rest ∷ [] → Tells (Name rest) r → Tells (AllNamed bytes) r
told_last bytes rest r same e h = record {
  sound = λ y. same.back (subst (AllByRecursion Name) (sym e) (h.sound y, tt));
  full = λ a. h.full (subst (AllByRecursion Name) e (same.forth a)).0;
}

pub told_no : (bytes rest : List ℕ) → SameNaming bytes rest → (AllNamed rest → ⊥) → Tells (AllNamed bytes) false
told_no bytes rest same bad = record { sound = λ y. cc; full = λ a. absurd (bad (same.forth a)) }
