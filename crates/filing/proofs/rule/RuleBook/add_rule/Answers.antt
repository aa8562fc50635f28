use Rattle.std.proofs.Common.{◌≡◌, length, set, sym, ap, ◌∙◌, subst, arith}
use Rattle.book.specs.Shapes.{scope_at}
use Rattle.filing.specs.Rules.{ruled, rule_at}
use Rattle.book.proofs.Shaped.{scope_each}
use Rattle.filing.proofs.Ruled.{rule_set, rule_other}
use Rattle.filing.proofs.Grows.{grown}
use Rattle.filing.proofs.rule.RuleBook.add_rule.Goals as goal

pub invariant_of-self : goal.invariant_of-self
invariant_of-self c =
    let s = c.args.self.now.shape in
    let n = c.add.new.self in
    let m = c.add.ensures.added (c.add.ensures.value.1 (c.requires.room, c.requires.fit)) in
    record { pairs = λ t h. subst (λ ss. length (scope_at ss t) ≡ 2) (sym m.scopes) (scope_each s.scopes s.tables c.args.scope (λ xs. length xs ≡ 2) t m.room (λ _. c.requires.pair) (λ apart. c.args.self.now.pairs t (omega (arith, m.tables)))) }

pub returns : goal.returns
returns c =
    let s = c.args.self.now.shape in
    let n = c.add.new.self in
    let m = c.add.ensures.added (c.add.ensures.value.1 (c.requires.room, c.requires.fit)) in
    let rs = c.args.self.now.rules in
    let rs' = set rs c.tables.result c.args.rule in
    let at = c.tables.ensures.value in
    let H = s.holders in
    grown s n c.args.scope m (λ t row. rule_at rs t H row) (λ t row. rule_at rs' t n.holders row) (ruled c.args.rule H)
    (λ t row h. ap (λ x. rule_at rs' t x row) m.holders ∙ rule_other rs c.tables.result c.args.rule t H row (λ e. omega arith))
    (λ row. ap (λ x. rule_at rs' s.tables x row) m.holders ∙ ap (λ t. rule_at rs' t H row) (sym at) ∙ rule_set rs c.tables.result c.args.rule H row (omega arith))
