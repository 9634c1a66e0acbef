-- `lent::making::copy` meets its contract. The loop's invariant: the bytes passed are stored, and the others are as they were. Assumes
-- nothing.
use mathlib.Core.Path.{◌≡◌}
use Prim.Native.Nat.{◌-◌}
use lib.ListN.{take, drop}
use lib.Seq.{sets}
use Rattle.lent.proofs.making.copy.Given as goal

abbrev pub invariant-loop-i : goal.invariant-loop-i
invariant-loop-i l = l.to ≡ sets l.initial.to 0 (take (l.i - 0) (drop 0 l.from))
