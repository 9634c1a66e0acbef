-- What is read and exposed, as values of the code stand for it.
-- Assumes nothing.
use Rattle.std.specs.Prelude.{ℕ, ◌≡◌, List, length, Option, Some, None}
use Rattle.time.specs.Raw.{span}
use Rattle.cell.specs.Cell.{array_bytes, array_cells, pages}
use Rattle.settle.specs.declared.cells.CellsRef.{CellsRef}
use Rattle.settle.specs.declared.cells.CellsMut.{CellsMut}
use Rattle.settle.specs.declared.exposure.Exposure.{Exposure}
use Rattle.settle.specs.Pages.{Cells}
use Rattle.settle.specs.Settling.{expose, changes, Left}

-- the cells that an index, an array and charges are, and that each has its length
abbrev pub cells_of : List ℕ → List ℕ → List ℕ → Cells
cells_of index array charges = record { index = index; array = array; charges = charges }

abbrev pub Lengths : List ℕ → List ℕ → List ℕ → Type 0
Lengths index array charges = (length index ≡ pages) × (length array ≡ array_bytes) × (length charges ≡ array_cells)

-- the cells behind the references
abbrev pub cells_in : CellsRef → Cells
cells_in cells = cells_of cells.index.now cells.array.now cells.charges.now

-- of cells to be changed, at some moment
abbrev pub cells_at : CellsMut → Cells
cells_at cells = cells_of cells.index.now cells.array.now cells.charges.now

-- The same memory as before, whatever it holds.
pub record SameCells (old new : CellsMut) : Type 0 where
  pub same_index : new.index.ghost_name ≡ old.index.ghost_name
  pub same_array : new.array.ghost_name ≡ old.array.ghost_name
  pub same_charges : new.charges.ghost_name ≡ old.charges.ghost_name

-- what is left of cells that were changed: they are some others, and the words are those of the bytes that differ
abbrev pub LeavesCells : Cells → Cells → List ℕ → CellsMut → List ℕ → ℕ → Type 0
LeavesCells before after lent cells events count =
    Left after (changes 0 before.array after.array) lent cells.index.now cells.array.now cells.charges.now events count

-- what an exposure leaves, and without one nothing changes
abbrev pub after_exposure : Option Exposure → Cells → Cells
after_exposure None c = c
after_exposure (Some e) c = expose e.pulse e.latch.now (span e.length) c
