-- The cells that a look at a time sees.
-- Assumes nothing.
use Rattle.settle.specs.Pages.{Cells}
use Rattle.settle.specs.Views.{cells_in, after_exposure}
use Rattle.look.specs.declared.looking.View.{View}

-- as a settle then would leave them
abbrev pub cells_after : View → Cells
cells_after view = after_exposure view.exposure (cells_in view.cells)
