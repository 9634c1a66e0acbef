-- The text of a report, from what was counted, the states of the pages and the map's marks, if any: its parts in the order in which they are
-- printed.
-- Assumes nothing.
use Rattle.std.specs.Prelude.{ℕ, zero, suc, ◌+◌, ◌-◌, ◌*◌, ◌<◌, Bool, cond, not, ◌||◌, List, [], ◌∷◌, ◌++◌, eqb, leb, get_or, take, drop, Option, None, Some}
use Rattle.std.specs.Borrow.{MutBor}
use Rattle.lists.specs.Lists.{at}
use Rattle.cell.specs.Cell.{page_bytes, pages}
use Rattle.control.specs.Blocks.{blocks, block_range}
use Rattle.settle.specs.declared.tally.Tally.{Tally}
use Rattle.flash.specs.declared.PageState.{PageState}
use Rattle.flash.specs.declared.PageState.TheVariants.{Blank, Legible}
use Rattle.text.specs.declared.Text.{Text}
use Rattle.text.specs.Text.{bytes, filled, said}
use Rattle.text.specs.Says.{Says}
use Rattle.verdict.specs.States.{count_in}
use Rattle.answers.specs.Report.{call_lines, pulse_line, page_line, legible_line, verdict_line}
use Rattle.verdict.specs.declared.Counts.{Counts}
use Rattle.summary.specs.declared.Judged.{Judged}

-- the lines of n things from thing i on
unfoldable pub lines : (ℕ → List ℕ) → ℕ → ℕ → List ℕ
lines line i zero = []
lines line i (suc n) = line i ++ lines line (suc i) n

-- whether each of the calls 0 to n - 1 puts its line, by what a call leaves of a cursor
abbrev pub PutsEach : (MutBor Text → ℕ → MutBor Text → Type 0) → (ℕ → List ℕ) → ℕ → Type 0
PutsEach call line n = (k : ℕ) → k < n → (old new : MutBor Text) → call old k new → Says (line k) old.now new.now

-- ---- what was counted

-- how many lines of the history were left out, where some were
abbrev pub left_out_line : ℕ → List ℕ
left_out_line n = cond (eqb n 0) [] (said "lines left out: %\n" (n ∷ []))

-- the pulses of block b
abbrev pub pulses_in : Tally → ℕ → List ℕ
pulses_in t b = pulse_line b (at t.completed b) (at t.interrupted b)

unfoldable pub counts_text : Counts → List ℕ
counts_text c = call_lines c.made c.refused ++ left_out_line c.left_out ++ lines (pulses_in c.tally) 0 blocks

-- ---- pages

-- n pages of block b from page p on: the first and the last address, how many are blank, and how many legible
abbrev pub range_line : List PageState → ℕ → ℕ → ℕ → List ℕ
range_line states b p n =
    page_line b (p * page_bytes) ((p + n) * page_bytes - 1) (count_in Blank states p n) (count_in Legible states p n)

-- the pages of block b
unfoldable pub pages_in : List PageState → ℕ → List ℕ
pages_in states b = range_line states b (block_range b).first (block_range b).pages

-- a line for page p, if its state has one
abbrev pub state_line : PageState → ℕ → List ℕ
state_line Blank p = []
state_line Legible p = legible_line (p * page_bytes)

abbrev pub page_told : List PageState → ℕ → List ℕ
page_told states p = state_line (get_or states p Blank) p

unfoldable pub pages_text : List PageState → List ℕ
pages_text states = lines (pages_in states) 0 blocks ++ lines (page_told states) 0 pages

-- ---- the map

-- 12 rows of 32 pages
abbrev pub map_rows : ℕ
map_rows = 12

abbrev pub row_pages : ℕ
row_pages = 32

-- row r: its first address, and the marks of its pages
abbrev pub map_row : List ℕ → ℕ → List ℕ
map_row marks r = filled (bytes "$ @\n") (take row_pages (drop (r * row_pages) marks)) (r * row_pages * page_bytes ∷ [])

-- the head and the rows, where there are marks
unfoldable pub map_text : Option (List ℕ) → List ℕ
map_text None = []
map_text (Some marks) = said "map: . blank, + reads FF with charge left, # legible\n" [] ++ lines (map_row marks) 0 map_rows

-- ---- what is judged

-- whether the judged pages lie in the flash
abbrev pub lies : Judged → Bool
lies j = leb (j.first + j.pages) pages

-- the first and the last address of the judged pages
abbrev pub address_line : Judged → List ℕ
address_line j = said "only $ to $ is judged\n" (j.first * page_bytes ∷ ((j.first + j.pages) * page_bytes - 1) ∷ [])

-- the same where some of the pages are judged and not all
abbrev pub only_line : Judged → List ℕ
only_line j = cond (eqb j.pages pages || eqb j.pages 0 || not (lies j)) [] (address_line j)

-- How many of the judged pages are legible. Where they do not lie in the flash all of them count: nothing is called blank unseen.
unfoldable pub legible_among : List PageState → Judged → ℕ
legible_among states j = cond (lies j) (count_in Legible states j.first j.pages) j.pages

unfoldable pub judged_text : List PageState → Judged → List ℕ
judged_text states j = only_line j ++ verdict_line (legible_among states j)

-- ---- all of it

unfoldable pub summary_text : Counts → List PageState → Option (List ℕ) → Judged → List ℕ
summary_text c states marks j = counts_text c ++ pages_text states ++ map_text marks ++ judged_text states j
