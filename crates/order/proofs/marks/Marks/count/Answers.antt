use Rattle.std.proofs.Common.{◌≡◌, take, ◌∙◌, rules, arith}
use Rattle.std.specs.List.{count_by}
use Rattle.order.proofs.Chains.{size_counted}
use Rattle.order.proofs.marks.Marks.count.Goals as goal

pub returns : goal.returns
returns c = let e : c.count.result ≡ count_by (λ b. b) (take c.args.n c.args.self.now.on) = search rules in e ∙ size_counted c.args.self.now.on c.args.n (omega arith)
