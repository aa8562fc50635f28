use Rattle.std.proofs.Common.{refl}
use Rattle.book.proofs.Bars.{no_bars}
use Rattle.book.proofs.barred.Barred.new.Goals as goal

pub returns : goal.returns
returns g c = record { same = refl; value = no_bars }
