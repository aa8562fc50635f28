use Rattle.std.proofs.Common.{ap, ◌∙◌, arith}
use Rattle.filing.specs.Contents.{barred_in_turn}
use Rattle.filing.proofs.draft.Draft.new.Goals as goal

pub returns : goal.returns
unfolding barred_in_turn
returns c =
    let written = c.new.ensures.shape in
    let rules = c.new-2.ensures in
    let first = ap (λ s. s.tables) written ∙ c.requires in
    let second = ap (λ s. s.tables) rules ∙ c.requires in
    record {
      lent = c.new.ensures.rows;
      written_so = record { locks = ap (λ s. s.locks) written; holders = ap (λ s. s.holders) written; tables = first; scope = λ t h. absurd (omega arith); charge = λ t k h r. absurd (omega arith) };
      rules_so = record { locks = ap (λ s. s.locks) rules; holders = ap (λ s. s.holders) rules; tables = second; scope = λ t h. absurd (omega arith); charge = λ t k h r. absurd (omega arith) };
      joins_so = c.new-3.ensures;
      bars_so = c.new-4.ensures.value;
    }
