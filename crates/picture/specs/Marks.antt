-- The map: a mark for each page, by its state and what charge is left in it. Document 01, "Cells and sensing" and "Verify sensing, looking,
-- snapshot".
-- Assumes nothing.
use Rattle.std.specs.Prelude.{ℕ, zero, suc, ◌*◌, Bool, true, false, ◌||◌, List, map, ltb}
use Rattle.std.specs.List.{enumerate_from}
use Rattle.time.specs.declared.Time.{Time}
use Rattle.cell.specs.Cell.{page_cells}
use Rattle.flash.specs.declared.PageState.{PageState}
use Rattle.flash.specs.declared.PageState.TheVariants.{Blank, Legible}
use Rattle.flash.specs.Chip.{Chip}
use Rattle.flash.specs.Looking.{charge_at, page_states}

-- whether one of n cells from cell i on holds a charge; cell i has charge q i
unfoldable pub holds_charge : (ℕ → ℕ) → ℕ → ℕ → Bool
holds_charge q zero i = false
holds_charge q (suc n) i = ltb 0 (q i) || holds_charge q n (suc i)

-- whether page p holds a charge at a time
unfoldable pub charged_at : Time → Chip → ℕ → Bool
charged_at t k p = holds_charge (charge_at t k) page_cells (p * page_cells)

-- '#' is a legible page, '+' a blank one in which a cell still holds a charge, '.' a blank one without any
abbrev pub mark_of : PageState → Bool → ℕ
mark_of Legible charged = 0x23
mark_of Blank true = 0x2B
mark_of Blank false = 0x2E

-- the mark of each page, by the states of all and by whether page p holds a charge
unfoldable pub marks_of : List PageState → (ℕ → Bool) → List ℕ
marks_of states charged = map (λ page. mark_of page.1 (charged page.0)) (enumerate_from 0 states)

-- the marks of all pages at a time
unfoldable pub marks_at : Time → Chip → List ℕ
marks_at t k = marks_of (page_states t k) (charged_at t k)
