-- Looking at a time: answers as a settle then would leave array and charges, and keeps nothing. Document 01, "Cells and sensing" and
-- "Verify sensing, looking, snapshot".
-- Assumes nothing.
use Rattle.std.specs.Prelude.{ℕ, zero, suc, ◌*◌, ◌/◌, Bool, true, cond, ◌&&◌, List, map, eqb}
use Rattle.std.specs.List.{range_with_len}
use Rattle.time.specs.declared.Time.{Time}
use Rattle.lists.specs.Lists.{at}
use Rattle.cell.specs.Cell.{page_bytes, pages}
use Rattle.registers.specs.declared.Pulse.{Pulse}
use Rattle.settle.specs.Pages.{cell_at}
use Rattle.settle.specs.Settling.{ruled}
use Rattle.flash.specs.declared.PageState.{PageState}
use Rattle.flash.specs.declared.PageState.TheVariants.{Blank, Legible}
use Rattle.flash.specs.Chip.{Chip, settled_at}

-- the charge q of cell i after an exposure of l, where one of 0 leaves any charge as it is
unfoldable pub exposed_by : Pulse → List ℕ → ℕ → ℕ → ℕ → ℕ
exposed_by p latch zero i q = q
exposed_by p latch (suc l) i q = ruled p latch (suc l) i q

-- the charge of cell i, of a page that this still leaves unopened too
unfoldable pub charge_at : Time → Chip → ℕ → ℕ
charge_at now k i = cell_at (settled_at now k) i

unfoldable pub image_at : Time → Chip → List ℕ
image_at now k = (settled_at now k).array

unfoldable pub peek_at : Time → Chip → ℕ → ℕ
peek_at now k a = at (image_at now k) a

-- n bytes from address a on all read FF
unfoldable pub all_blank : ℕ → ℕ → List ℕ → Bool
all_blank zero a image = true
all_blank (suc n) a image = eqb (at image a) 0xFF && all_blank n (suc a) image

-- A page is blank if all 128 bytes of the image read FF. The report takes any address in the page.
unfoldable pub blank_at : Time → Chip → ℕ → Bool
blank_at now k a = all_blank page_bytes (a / page_bytes * page_bytes) (image_at now k)

-- the state of page p: blank as the report has it, or legible
unfoldable pub page_state : Time → Chip → ℕ → PageState
page_state now k p = cond (blank_at now k (p * page_bytes)) Blank Legible

-- the states of all pages
unfoldable pub page_states : Time → Chip → List PageState
page_states now k = map (page_state now k) (range_with_len 0 pages)
