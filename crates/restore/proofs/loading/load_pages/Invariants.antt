-- `restore::loading::load_pages` meets its contract. The loop's invariant: the charges of the pages passed are stored from the first slot on.
-- Assumes nothing.
use mathlib.Core.Path.{◌≡◌}
use lib.ListN.{length}
use lib.Seq.{sets}
use Rattle.cell.specs.Cell.{array_cells}
use Rattle.snapshot.specs.Places.{pages_place, pages_cells}
use Rattle.restore.proofs.loading.load_pages.Given as goal

abbrev pub invariant-loop-slot : goal.invariant-loop-slot
invariant-loop-slot l =
    (length l.charges ≡ array_cells) × (l.charges ≡ sets l.initial.charges 0 (pages_cells l.slot l.bytes pages_place))
