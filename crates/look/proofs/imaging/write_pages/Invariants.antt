-- `look::imaging::write_pages` meets its contract. The loop's invariant: the image's first pages are stored, as many as were passed. A page
-- that the exposure does not cover is the stored one. Assumes nothing.
use mathlib.Core.Path.{◌≡◌}
use Prim.Native.Nat.{◌*◌}
use lib.ListN.{take}
use lib.Seq.{sets}
use Rattle.std.specs.Prelude.{Some}
use Rattle.settle.specs.Views.{cells_in, after_exposure}
use Rattle.look.proofs.imaging.write_pages.Given as goal

abbrev pub invariant-loop-page : goal.invariant-loop-page
invariant-loop-page l = l.out ≡ sets l.initial.out 0 (take (l.page * 128) (after_exposure (Some l.exposure) (cells_in l.cells)).array)
