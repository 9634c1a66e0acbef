-- `sensing::limits::Ceilings::sense_page` meets its contract. The loop's invariant: the bytes passed are what their cells sense, and the others are as they
-- were; the eight cells lent to `sense_byte` are those of the page from eight times the byte's place on.
-- Assumes nothing.
use Prim.Native.Nat.{◌+◌, ◌*◌}
use mathlib.Core.Path.{◌≡◌}
use Rattle.lists.specs.Lists.{at}
use Rattle.cell.specs.Cell.{sensed_byte}
use Rattle.lists.proofs.Partly.{partly}
use Rattle.sensing.proofs.limits.Ceilings.sense_page.Given as goal

abbrev pub invariant-loop-i : goal.invariant-loop-i
invariant-loop-i l =
    l.out ≡ partly (λ b x. sensed_byte l.self.sense (l.address + b) (λ k. at l.cells (8 * b + k))) l.i l.initial.out
