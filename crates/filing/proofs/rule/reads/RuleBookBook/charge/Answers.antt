use Rattle.std.proofs.Common.{get_or, None, sym, ap, ◌∙◌, arith}
use Rattle.std.proofs.lemmas.Bool.{cond-true}
use Rattle.filing.specs.Rules.{ruled, rule_at}
use Rattle.book.specs.BookShapes.{has_row}
use Rattle.filing.proofs.Ruled.{rule_read}
use Rattle.filing.proofs.rule.reads.RuleBookBook.charge.Goals as goal

pub returns : goal.returns
returns c =
    let q = c.args.self.now in
    let rule = get_or q.rules c.args.table c.index-self-table.result in
    let inside = cond-true (has_row q.shape c.args.table c.args.row) (rule_at q.rules c.args.table q.shape.holders c.args.row) None (sym c.if-not-has_row.ensures.value) in
    let read = rule_read q.rules c.args.table c.index-self-table.result q.shape.holders c.args.row (omega arith) in
    c.charged.ensures ∙ ap (λ n. ruled rule n c.args.row) c.holders.ensures.value ∙ sym (inside ∙ read)
