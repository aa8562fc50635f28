use Rattle.std.proofs.Common.{refl, ap}
use Rattle.lines.specs.Told.{held, table}
use Rattle.lines.specs.declared.kind.Kind.TheVariants as kind
use Rattle.filing.specs.Standing.{add_table}
use Rattle.filing.specs.Readers.{standing_of}
use Rattle.filing.proofs.Judged.{is_table, scope_passes}
use Rattle.filing.proofs.reader.Reader.take_table.Goals as goal

pub returns : goal.returns
returns c follows =
    let s = standing_of c.args.self.now in
    let ns = held c.args.locks in
    let g = c.in_ok-scope.ensures in
    record {
      passes = scope_passes s (table ns) ns (is_table s ns follows) _ g;
      adds = (c.in_ok-scope.scope, g.over, refl);
      moves = ap (add_table s kind.Table) c.count-self.ensures;
    }
