-- `charging::open` meets its contract. The invariant of both loops: the cells passed have their first charges, and the others are as
-- they were.
-- Assumes nothing.
use Prim.Native.Nat.{ℕ, ◌+◌, ◌*◌}
use mathlib.Core.List.{List}
use mathlib.Core.Path.{◌≡◌}
use Rattle.cell.specs.Cell.{page_bit, first_charge}
use Rattle.lists.proofs.Partly.{partly}
use Rattle.charging.proofs.Bytes.{Further}
use Rattle.charging.proofs.open.Given as goal

-- the first charge of the cell j of a page
abbrev pub first : List ℕ → ℕ → ℕ → ℕ
first bytes j q = first_charge (page_bit bytes j)

abbrev pub invariant-loop-k : goal.invariant-loop-k
invariant-loop-k l = Further (first l.bytes) (8 * l.i) (8 * l.i + l.k) l.initial.cells l.cells

abbrev pub invariant-loop-i : goal.invariant-loop-i
invariant-loop-i l = l.cells ≡ partly (first l.bytes) (8 * l.i) l.initial.cells
