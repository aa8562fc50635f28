use Rattle.std.proofs.Common.{refl}
use Rattle.filing.specs.Written.{listed}
use Rattle.filing.proofs.Grows.{grown}
use Rattle.filing.proofs.written.WrittenBook.add_table.Goals as goal

pub returns : goal.returns
returns c = record { value = grown c.args.self.now.shape c.add.new.self c.args.scope (c.add.ensures.added (c.add.ensures.value.1 (c.requires.room, c.requires.fit))) (listed c.args.self.now.rows.now) (listed c.args.self.now.rows.now) (listed c.args.self.now.rows.now c.args.self.now.shape.tables) (λ t row h. refl) (λ row. refl); same = refl }
