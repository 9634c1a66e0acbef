-- `charging::charge` meets its contract. The invariant of both loops: the cells passed are moved by the clipped amount, and the others are
-- as they were; at the end the clipped amount is replaced by the exposure's, cell by cell.
-- Assumes nothing.
use Prim.Native.Nat.{ℕ, ◌+◌, ◌*◌}
use mathlib.Core.List.{List}
use mathlib.Core.Path.{◌≡◌}
use Rattle.cell.specs.Cell.{moved, page_bit}
use Rattle.cell.specs.declared.Direction.{Direction}
use Rattle.lists.proofs.Partly.{partly}
use Rattle.charging.proofs.Bytes.{Further}
use Rattle.charging.proofs.charge.Given as goal

-- the cell j of a page with charge q, moved by an amount
abbrev pub ruled : Direction → List ℕ → ℕ → ℕ → ℕ → ℕ
ruled d latch a j q = moved d (page_bit latch j) a q

abbrev pub invariant-loop-k : goal.invariant-loop-k
invariant-loop-k l =
    Further (ruled l.direction l.latch l.by) (8 * l.i) (8 * l.i + l.k) l.initial.cells l.cells

abbrev pub invariant-loop-i : goal.invariant-loop-i
invariant-loop-i l =
    l.cells ≡ partly (ruled l.direction l.latch l.by) (8 * l.i) l.initial.cells
