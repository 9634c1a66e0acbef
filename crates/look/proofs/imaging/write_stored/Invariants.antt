-- `look::imaging::write_stored` meets its contract. The loop's invariant: the bytes before the address are stored. Assumes nothing.
use mathlib.Core.Path.{◌≡◌}
use Prim.Native.Nat.{◌-◌}
use lib.ListN.{take, drop}
use lib.Seq.{sets}
use Rattle.look.proofs.imaging.write_stored.Given as goal

abbrev pub invariant-loop-address : goal.invariant-loop-address
invariant-loop-address l = l.out ≡ sets l.initial.out l.start (take (l.address - l.start) (drop l.start l.array))
