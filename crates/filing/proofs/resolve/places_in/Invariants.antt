use Rattle.std.proofs.Common.{◌≡◌, length, take}
use Rattle.book.specs.Lists.{Below}
use Rattle.lines.specs.Told.{held}
use Rattle.filing.specs.Standing.{places}
use Rattle.filing.specs.Resolving.{names_of}
use Rattle.filing.proofs.resolve.places_in.Given as goal

abbrev pub invariant-loop-name : goal.invariant-loop-name
invariant-loop-name l = record {
  count : length l.places.items ≡ length l.yielded;
  is : l.places.items ≡ places (names_of l.list) (take (length l.yielded) (held l.names));
  below : Below (length (names_of l.list)) l.places.items;
}
