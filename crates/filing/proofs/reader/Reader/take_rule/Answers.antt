use Rattle.lines.specs.Told.{held}
use Rattle.filing.specs.Readers.{standing_of}
use Rattle.filing.proofs.Judged.{rule_taken}
use Rattle.filing.proofs.reader.Reader.take_rule.Goals as goal

pub returns : goal.returns
returns c follows = rule_taken (standing_of c.args.self.now) c.args.form (held c.args.locks) c.args.charge _ _ _ follows c.in_ok-scope.ensures c.count-self.ensures c.charge_of.ensures
