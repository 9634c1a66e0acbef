-- `sensing::limits::Ceilings::sense_byte` meets its contract. The loop's invariant: the cells passed have given the byte's lowest bits.
-- Assumes nothing.
use Prim.Native.Nat.{◌+◌, ◌*◌, ◌^◌, ◌<◌}
use mathlib.Core.Path.{◌≡◌}
use Rattle.lists.specs.Lists.{at}
use Rattle.cell.specs.Cell.{from_bits, sensed_cell}
use Rattle.sensing.proofs.limits.Ceilings.sense_byte.Given as goal

abbrev pub invariant-loop-k : goal.invariant-loop-k
invariant-loop-k l =
    (l.byte ≡ from_bits l.k (λ j. sensed_cell l.self.sense (8 * l.address + j) (at l.cells j))) × (l.byte < 2 ^ l.k)
