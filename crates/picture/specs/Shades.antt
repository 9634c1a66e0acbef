-- The picture: a shade for each cell, by its charge. FULL is the charge of a programmed cell in document 01, "Cells and sensing".
-- Assumes nothing.
use Rattle.std.specs.Prelude.{ℕ, ◌*◌, ◌/◌, min}
use Rattle.time.specs.declared.Time.{Time}
use Rattle.cell.specs.Cell.{FULL}
use Rattle.flash.specs.Chip.{Chip}
use Rattle.flash.specs.Looking.{charge_at}

-- 0 for no charge to 255 for FULL, rounded down; 255 above FULL too
unfoldable pub shade_of : ℕ → ℕ
shade_of q = min (q * 255 / FULL) 255

-- the shade of cell i at a time
unfoldable pub shade_at : Time → Chip → ℕ → ℕ
shade_at t k i = shade_of (charge_at t k i)
