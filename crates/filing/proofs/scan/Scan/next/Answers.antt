use Rattle.std.proofs.Common.{◌≡◌, Ok, Err, Result, MatchResult, sym, refl, ap, ◌∙◌, subst, rules}
use borrow.Author.Tests.{clash}
use Rattle.std.specs.Result.{is_ok, IsErrAnd}
use Rattle.std.proofs.lemmas.Result.{err_from_is_err_and}
use Rattle.book.specs.declared.refusal.Refusal.{Refusal}
use Rattle.book.specs.declared.refusal.RecordCause.{RecordCause}
use Rattle.lines.specs.Told.{Told}
use Rattle.filing.specs.declared.reader.Entry.{Entry}
use Rattle.filing.specs.Standing.{Standing}
use Rattle.filing.specs.Judging.{FirstMet}
use Rattle.filing.specs.Reading.{met}
use Rattle.filing.specs.Readers.{AnyRow, Taken, Judged}
use Rattle.filing.proofs.Texts.{still_fits}
use Rattle.filing.proofs.scan.Scan.next.Goals as goal

-- the judgement of a line, where its causes are mapped to refusals
taken : (s next : Standing) (t : Told) (r : Result Entry RecordCause) (m : Result Entry Refusal) (e : Entry) (P : RecordCause → Refusal → Type 0) → Judged s t next r → MatchResult r (λ x. m ≡ Ok x) (λ c. IsErrAnd m (P c)) → is_ok m ≡ is_ok r → m ≡ Ok e → Taken s t next e
taken s next t (Ok x) m e P j k v is = let p : x ≡ e = cc in subst (Taken s t next) p j
taken s next t (Err c) m e P j k v is = absurd (clash (sym v ∙ ap is_ok is))

refused : (s next : Standing) (t : Told) (r : Result Entry RecordCause) (m : Result Entry Refusal) (f : Refusal) (P : RecordCause → Refusal → Type 0) → Judged s t next r → MatchResult r (λ x. m ≡ Ok x) (λ c. IsErrAnd m (P c)) → is_ok m ≡ is_ok r → m ≡ Err f → (c : RecordCause) × FirstMet AnyRow c s t × P c f
refused s next t (Ok x) m f P j k v is = absurd (clash (sym (ap is_ok is) ∙ v))
refused s next t (Err c) m f P j k v is = (c, j, rw is at k)

pub returns-in_err-entry : goal.returns-in_err-entry
returns-in_err-entry c =
    let p = err_from_is_err_and c.from_residual-in_err-entry.result c.from_residual-in_err-entry.ensures.1 in
    let j = refused _ _ _ _ _ c.in_err-entry.field-0.0 _ c.take.ensures c.map_err.ensures.cases c.map_err.ensures.variant c.in_err-entry.was in
    let k = j.2 in
    rw (p.1, p.2) (met _ _ j.0 c.in_ok-line.ensures.0 j.1 (search rules), refl)

pub invariant_of-self : goal.invariant_of-self
invariant_of-self c =
    let t = taken _ _ _ _ _ c.in_ok-entry.entry _ c.take.ensures c.map_err.ensures.cases c.map_err.ensures.variant c.in_ok-entry.was in
    let f = still_fits _ _ _ _ _ _ c.args.self.now.place t c.in_ok-line.ensures.0 c.args.self.now.few_rows c.args.self.now.few_lines in
    record { few_rows = f.0; few_lines = f.1 }
