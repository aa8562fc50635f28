-- Spelling is one-to-one: a key tells the kind, a mark is where it is first, and numbers and names have one spelling.
use Rattle.std.proofs.Common.{◌≡◌, ℕ, ◌^◌, ◌<◌, ◌≤◌, Bool, true, false, cond, eqb, Bor, MatchOption, List, [], ◌∷◌, ◌++◌, length, get_or, decimal, sym, refl, ap, ◌∙◌, subst, arith, length-append, rules, eq-eqb}
use borrow.Author.Tests.{clash}
use Rattle.std.specs.Bool.{then_some}
use Rattle.weighing.specs.Tests.{Tells}
use Rattle.std.specs.Str.Parse.{AllDigits, digits_value}
use Rattle.std.specs.Int.{IsInRange}
use Rattle.std.specs.List.{AllByRecursion, slice_split}
use Rattle.std.proofs.lemmas.Fmt.{digits_decimal, digits_value-decimal}
use Rattle.std.proofs.lemmas.List.Elements.{All-append, All-from_get_or, All-from_recursion}
use Rattle.std.proofs.lemmas.List.{append_cancel_left}
use Rattle.std.proofs.lemmas.List.Splits.{slice_split_at, slice_split_none}
use Rattle.std.proofs.lemmas.Str.Parse.{IsNumeralModel, numerals_by_value, tells_digits, not_in_digits}
use Rattle.lines.specs.Cuts.{Lacks, Cut}
use Rattle.lines.specs.Names.{Name, joined, pieces}
use Rattle.lines.specs.Told.{Told, locks, holders, table, row, differ, same, join, bar, kind_of, key, charged, body, spell, Named, Good, Reads}
use Rattle.lines.specs.Bodies.{NoBody, NoPair}
use Rattle.lines.specs.Texts.{spell_all, NoLine}
use Rattle.lines.specs.declared.kind.Kind.{Kind}
use Rattle.lines.specs.declared.kind.Kind.TheVariants as kind
use Rattle.lines.proofs.Cutting.{Same, one_place, none_is, lacks_between}
use Rattle.lines.proofs.Naming.{lacks_joined, lacks_name, pieces_joined}

own : IsNumeralModel (AllDigits 10) (digits_value 10)
own = numerals_by_value _ tells_digits

pub lacks_decimal : (c n : ℕ) → n ≤ 1000000 → (IsInRange 48 57 c → ⊥) → Lacks c (decimal n)
lacks_decimal c n small out =
    let w : n < 2 ^ 64 = omega arith in
    All-from_get_or (λ b. b ≡ c → ⊥) (decimal n) 0 (not_in_digits own (decimal n) c (digits_decimal own n w) out)

-- the parts of a body, at the mark between them

pub charged_cut : (ns : List (List ℕ)) (n : ℕ) (bytes front back : List ℕ) → AllByRecursion Name ns → Cut 58 bytes front back → bytes ≡ charged ns n → Same (joined ns) front (decimal n) back
charged_cut ns n bytes front back names cut e =
    one_place 58 (joined ns) front (decimal n) back (sym e ∙ cut.whole) (lacks_joined 58 refl (λ h. omega arith) ns names) cut.first

pub nodes_cut : (m n : ℕ) (bytes front back : List ℕ) → m ≤ 1000000 → Cut 44 bytes front back → bytes ≡ decimal m ++ (44 ∷ decimal n) → Same (decimal m) front (decimal n) back
nodes_cut m n bytes front back small cut e =
    one_place 44 (decimal m) front (decimal n) back (sym e ∙ cut.whole) (lacks_decimal 44 m small (λ h. omega (arith, h.0))) cut.first

pub pair_cut : (l h bytes front back : List ℕ) → Name l → Cut 44 bytes front back → bytes ≡ l ++ (44 ∷ h) → Same l front h back
pair_cut l h bytes front back name cut e =
    one_place 44 l front h back (sym e ∙ cut.whole) (lacks_name 44 refl l name.bytes) cut.first

-- two names are the pair that the bytes spell, or they spell none
pub pair_of : (l h : Bor (List ℕ)) (bytes : List ℕ) (b : Bool) → Cut 44 bytes l.now h.now → Tells (Name l.now × Name h.now) b → MatchOption {T = Bor (List ℕ) × Bor (List ℕ)} (then_some b (l, h)) (NoPair bytes) (λ p. Name p.0.now × Name p.1.now × (bytes ≡ p.0.now ++ (44 ∷ p.1.now)))
pair_of l h bytes true cut t = let names = t.sound refl in (names.0, names.1, cut.whole)
pair_of l h bytes false cut t = λ x y g e.
    let r = pair_cut x y bytes l.now h.now g.0 cut e in
    clash (t.full (subst Name r.front g.0, subst Name r.back g.1))

-- a key tells the kind

abbrev first : ℕ → Kind
first b = cond (eqb b 108) kind.Locks (cond (eqb b 104) kind.Holders (cond (eqb b 116) kind.Table (cond (eqb b 114) kind.Row (cond (eqb b 100) kind.Differ (cond (eqb b 115) kind.Same (cond (eqb b 106) kind.Join kind.Bar))))))

first_key : (k : Kind) (x : List ℕ) → first (get_or (key k ++ x) 0 0) ≡ k
first_key kind.Locks x = refl
first_key kind.Holders x = refl
first_key kind.Table x = refl
first_key kind.Row x = refl
first_key kind.Differ x = refl
first_key kind.Same x = refl
first_key kind.Join x = refl
first_key kind.Bar x = refl

pub one_key : (k j : Kind) (x y : List ℕ) → key k ++ x ≡ key j ++ y → k ≡ j
one_key k j x y e = sym (first_key k x) ∙ ap (λ l. first (get_or l 0 0)) e ∙ first_key j y

pub one_body : (k j : Kind) (x y : List ℕ) → key k ++ x ≡ key j ++ y → x ≡ y
one_body k j x y e = append_cancel_left (key k) x y (e ∙ ap (λ i. key i ++ y) (sym (one_key k j x y e)))

-- where no value of the kind has the body, no value has it

none_of_kind : (t : Told) (bs : List ℕ) → NoBody (kind_of t) bs → Good t → bs ≡ body t → ⊥
none_of_kind (locks ns) bs not g e = not ns g e
none_of_kind (holders ns) bs not g e = not ns g e
none_of_kind (table ns) bs not g e = not ns g e
none_of_kind (row ns n) bs not g e = not ns n g e
none_of_kind (differ ns n) bs not g e = not ns n g e
none_of_kind (same ns n) bs not g e = not ns n g e
none_of_kind (join m n) bs not g e = not m n g e
none_of_kind (bar l h) bs not g e = not l h g e

pub no_value : (k : Kind) (rest bytes : List ℕ) → bytes ≡ key k ++ rest → NoBody k rest → (t : Told) → Reads t bytes → ⊥
no_value k rest bytes e not t r =
    let same = one_key k (kind_of t) rest (body t) (sym e ∙ r.is) in
    none_of_kind t rest (subst (λ j. NoBody j rest) same not) r.good (one_body k (kind_of t) rest (body t) (sym e ∙ r.is))

-- no line holds its end byte

lacks_key : (k : Kind) → Lacks 10 (key k)
lacks_key kind.Locks = All-from_recursion (λ b. b ≡ 10 → ⊥) (key kind.Locks) (search rules)
lacks_key kind.Holders = All-from_recursion (λ b. b ≡ 10 → ⊥) (key kind.Holders) (search rules)
lacks_key kind.Table = All-from_recursion (λ b. b ≡ 10 → ⊥) (key kind.Table) (search rules)
lacks_key kind.Row = All-from_recursion (λ b. b ≡ 10 → ⊥) (key kind.Row) (search rules)
lacks_key kind.Differ = All-from_recursion (λ b. b ≡ 10 → ⊥) (key kind.Differ) (search rules)
lacks_key kind.Same = All-from_recursion (λ b. b ≡ 10 → ⊥) (key kind.Same) (search rules)
lacks_key kind.Join = All-from_recursion (λ b. b ≡ 10 → ⊥) (key kind.Join) (search rules)
lacks_key kind.Bar = All-from_recursion (λ b. b ≡ 10 → ⊥) (key kind.Bar) (search rules)

lacks_names : (ns : List (List ℕ)) → AllByRecursion Name ns → Lacks 10 (joined ns)
lacks_names ns a = lacks_joined 10 refl (λ e. omega arith) ns a

lacks_number : (n : ℕ) → n ≤ 1000000 → Lacks 10 (decimal n)
lacks_number n h = lacks_decimal 10 n h (λ p. omega (arith, p.0))

lacks_charged : (ns : List (List ℕ)) (n : ℕ) → AllByRecursion Name ns → n ≤ 1000000 → Lacks 10 (charged ns n)
lacks_charged ns n a h = lacks_between 10 58 (joined ns) (decimal n) (λ e. omega arith) (lacks_names ns a) (lacks_number n h)

lacks_body : (t : Told) → Good t → Lacks 10 (body t)
lacks_body (locks ns) g = lacks_names ns g.names
lacks_body (holders ns) g = lacks_names ns g.names
lacks_body (table ns) g = lacks_names ns g.names
lacks_body (row ns n) g = lacks_charged ns n g.0.names g.1
lacks_body (differ ns n) g = lacks_charged ns n g.0.names g.1
lacks_body (same ns n) g = lacks_charged ns n g.0.names g.1
lacks_body (join m n) g = lacks_between 10 44 (decimal m) (decimal n) (λ e. omega arith) (lacks_number m g.0) (lacks_number n g.1)
lacks_body (bar l h) g = lacks_between 10 44 l h (λ e. omega arith) (lacks_name 10 refl l g.0.bytes) (lacks_name 10 refl h g.1.bytes)

pub lacks_spell : (t : Told) → Good t → Lacks 10 (spell t)
lacks_spell t g = All-append (λ b. b ≡ 10 → ⊥) (key (kind_of t)) (body t) (lacks_key (kind_of t)) (lacks_body t g)

-- no line begins a text whose first line has no value
pub no_line : (text bytes after : List ℕ) → Cut 10 text bytes after → ((t : Told) → Reads t bytes → ⊥) → NoLine text
no_line text bytes after cut not t rest b =
    let r = one_place 10 (spell t) bytes rest after (sym b.is ∙ cut.whole) (lacks_spell t b.good) cut.first in
    not t (record { good = b.good; is = sym r.front })

-- the value that a body spells is got back from it

parts : ℕ → List ℕ → List (List ℕ)
parts c bs = slice_split (λ b. eqb b c) bs

told : Kind → List ℕ → Told
told kind.Locks bs = locks (pieces bs)
told kind.Holders bs = holders (pieces bs)
told kind.Table bs = table (pieces bs)
told kind.Row bs = row (pieces (get_or (parts 58 bs) 0 [])) (digits_value 10 (get_or (parts 58 bs) 1 []))
told kind.Differ bs = differ (pieces (get_or (parts 58 bs) 0 [])) (digits_value 10 (get_or (parts 58 bs) 1 []))
told kind.Same bs = same (pieces (get_or (parts 58 bs) 0 [])) (digits_value 10 (get_or (parts 58 bs) 1 []))
told kind.Join bs = join (digits_value 10 (get_or (parts 44 bs) 0 [])) (digits_value 10 (get_or (parts 44 bs) 1 []))
told kind.Bar bs = bar (get_or (parts 44 bs) 0 []) (get_or (parts 44 bs) 1 [])

two_parts : (c : ℕ) (x y : List ℕ) → Lacks c x → Lacks c y → parts c (x ++ (c ∷ y)) ≡ x ∷ (y ∷ [])
unfolding parts
two_parts c x y lx ly =
    slice_split_at (λ b. eqb b c) x c y (none_is c x lx) (eq-eqb c c refl) ∙ ap (λ l. x ∷ l) (slice_split_none (λ b. eqb b c) y (none_is c y ly))

charged_parts : (ns : List (List ℕ)) (n : ℕ) → AllByRecursion Name ns → n ≤ 1000000 → parts 58 (charged ns n) ≡ joined ns ∷ (decimal n ∷ [])
charged_parts ns n a h =
    two_parts 58 (joined ns) (decimal n) (lacks_joined 58 refl (λ k. omega arith) ns a) (lacks_decimal 58 n h (λ p. omega (arith, p.1)))

names_again : (ns : List (List ℕ)) → 1 ≤ length ns → AllByRecursion Name ns → pieces (joined ns) ≡ ns
names_again ns some a = pieces_joined ns (record { names = a; some = some })

number_again : (n : ℕ) → n ≤ 1000000 → digits_value 10 (decimal n) ≡ n
number_again n h = digits_value-decimal own n (omega arith)

charged_names_again : (least most : ℕ) (ns : List (List ℕ)) (n : ℕ) → 1 ≤ least → Named least most ns → n ≤ 1000000 → pieces (get_or (parts 58 (charged ns n)) 0 []) ≡ ns
charged_names_again least most ns n some g h =
    ap (λ l. pieces (get_or l 0 [])) (charged_parts ns n g.names h) ∙ names_again ns (omega (arith, g.least_so)) g.names

charged_number_again : (ns : List (List ℕ)) (n : ℕ) → AllByRecursion Name ns → n ≤ 1000000 → digits_value 10 (get_or (parts 58 (charged ns n)) 1 []) ≡ n
charged_number_again ns n a h = ap (λ l. digits_value 10 (get_or l 1 [])) (charged_parts ns n a h) ∙ number_again n h

told_again : (t : Told) → Good t → told (kind_of t) (body t) ≡ t
unfolding told
told_again (locks ns) g = ap locks (names_again ns g.some g.names)
told_again (holders ns) g = ap holders (names_again ns g.some g.names)
told_again (table ns) g = ap table (names_again ns g.least_so g.names)
told_again (row ns n) g = let p = charged_names_again 1 4 ns n (omega arith) g.0 g.1 in let q = charged_number_again ns n g.0.names g.1 in cc
told_again (differ ns n) g = let p = charged_names_again 2 2 ns n (omega arith) g.0 g.1 in let q = charged_number_again ns n g.0.names g.1 in cc
told_again (same ns n) g = let p = charged_names_again 2 2 ns n (omega arith) g.0 g.1 in let q = charged_number_again ns n g.0.names g.1 in cc
told_again (join m n) g =
    let both = two_parts 44 (decimal m) (decimal n) (lacks_decimal 44 m g.0 (λ p. omega (arith, p.0))) (lacks_decimal 44 n g.1 (λ p. omega (arith, p.0))) in
    let p = ap (λ l. digits_value 10 (get_or l 0 [])) both ∙ number_again m g.0 in
    let q = ap (λ l. digits_value 10 (get_or l 1 [])) both ∙ number_again n g.1 in
    cc
told_again (bar l h) g =
    let both = two_parts 44 l h (lacks_name 44 refl l g.0.bytes) (lacks_name 44 refl h g.1.bytes) in
    let p = ap (λ l. get_or l 0 []) both in
    let q = ap (λ l. get_or l 1 []) both in
    cc

pub one_value : (t u : Told) → Good t → Good u → spell t ≡ spell u → t ≡ u
one_value t u g h e =
    let k = one_key (kind_of t) (kind_of u) (body t) (body u) e in
    let b = one_body (kind_of t) (kind_of u) (body t) (body u) e in
    sym (told_again t g) ∙ ap (λ k. told k (body t)) k ∙ ap (told (kind_of u)) b ∙ told_again u h

-- lines end at their first end byte, so a text has one reading

pub one_reading : (ts us : List Told) → AllByRecursion Good ts → AllByRecursion Good us → spell_all ts ≡ spell_all us → ts ≡ us
one_reading [] [] gt gu e = refl
one_reading [] (u ∷ us) gt gu e = absurd (omega (arith, ap length e, length-append (spell u) (10 ∷ spell_all us)))
one_reading (t ∷ ts) [] gt gu e = absurd (omega (arith, ap length e, length-append (spell t) (10 ∷ spell_all ts)))
one_reading (t ∷ ts) (u ∷ us) gt gu e =
    let r = one_place 10 (spell t) (spell u) (spell_all ts) (spell_all us) e (lacks_spell t gt.0) (lacks_spell u gu.0) in
    let p = one_value t u gt.0 gu.0 r.front in
    let q = one_reading ts us gt.1 gu.1 r.back in
    cc
