-- `settle::cells::CellsRef::charge` meets its contract: a page's entry tells its slot, which is below the number of pages, or none.
-- Assumes nothing.
use mathlib.Core.Path.{◌∙◌}
use Prim.Native.Nat.{◌/◌}
use native.Mathlib.Omega.{arith}
use Rattle.settle.specs.Pages.{cell_at, held}
use Rattle.settle.proofs.Slots.{entry-le}
use Rattle.settle.proofs.cells.CellsRef.charge.Goals as goal

pub returns-in-None : goal.returns-in-None
unfolding cell_at held
returns-in-None c = c.first_charge.ensures ∙ rw (c.bit.ensures, c.in-None.ensures)

pub bounds-self-slot : goal.bounds-self-slot
bounds-self-slot c =
    let x = c.args.self.now in
    omega (arith, c.in-Some.ensures, entry-le _ x.index_long x.sound (c.args.i / 1024))

pub returns-in-Some : goal.returns-in-Some
unfolding cell_at held
returns-in-Some c = rw c.in-Some.ensures
