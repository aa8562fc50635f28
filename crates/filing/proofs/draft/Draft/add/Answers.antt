use Rattle.std.proofs.Common.{sym, refl, subst}
use Rattle.filing.specs.declared.draft.Draft.{Draft}
use Rattle.filing.specs.Drafts.{Extends}
use Rattle.filing.proofs.Drafting.{hold_table, hold_rule, hold_bar}
use Rattle.filing.proofs.draft.Draft.add.Goals as goal

pub returns-in-Table : goal.returns-in-Table
returns-in-Table c =
    let d = c.args.self.now in
    let f : Draft = record { written = c.add_table.new.self; rules = d.rules; joins = d.joins; bars = d.bars } in
    subst (λ e. Extends d f e) (sym c.in-Table.is) (hold_table d f c.in-Table.scope c.add_table.ensures.value c.add_table.ensures.same refl refl refl)

pub returns-in-Rule : goal.returns-in-Rule
returns-in-Rule c =
    let d = c.args.self.now in
    let f : Draft = record { written = d.written; rules = c.add_rule.new.self; joins = d.joins; bars = d.bars } in
    subst (λ e. Extends d f e) (sym c.in-Rule.is) (hold_rule d f c.in-Rule.scope c.in-Rule.rule c.add_rule.ensures refl refl refl)

pub returns-in-Bar : goal.returns-in-Bar
returns-in-Bar c =
    let d = c.args.self.now in
    let f : Draft = record { written = d.written; rules = d.rules; joins = d.joins; bars = c.set.new.self } in
    subst (λ e. Extends d f e) (sym c.in-Bar.is) (hold_bar d f c.in-Bar.lock c.in-Bar.holder c.set.ensures.after refl refl refl)
