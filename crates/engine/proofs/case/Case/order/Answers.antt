use Rattle.std.proofs.Common.{subst}
use Rattle.order.specs.Plans.{Ordered}
use Rattle.order.proofs.Shaped.{same_shape}
use Rattle.engine.proofs.case.Case.order.Goals as goal

pub invariant_of-self : goal.invariant_of-self
invariant_of-self g c =
    let f = c.args.self.now.book.book in
    let like = same_shape (g.B.Book.meaning f.book) f.shape (record { locks = f.same_locks; holders = f.same_holders; tables = f.same_tables; scopes = f.same_scopes }) in
    record { stands = ∣ subst (λ s. Ordered s c.in_ok-check.field-0) like c.in_ok-check.ensures.ordered ∣₁ }
