-- `look::imaging::write_sensed` meets its contract. The loop's invariant: the bytes of the image's page before the address are stored.
-- Assumes nothing.
use mathlib.Core.Path.{◌≡◌}
use Prim.Native.Nat.{◌-◌}
use lib.ListN.{take, drop}
use lib.Seq.{sets}
use Rattle.std.specs.Prelude.{Some}
use Rattle.settle.specs.Views.{cells_in, after_exposure}
use Rattle.look.proofs.imaging.write_sensed.Given as goal

abbrev pub invariant-loop-address : goal.invariant-loop-address
invariant-loop-address l =
    l.out ≡ sets l.initial.out l.start (take (l.address - l.start) (drop l.start (after_exposure (Some l.exposure) (cells_in l.cells)).array))
