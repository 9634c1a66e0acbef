-- Lines of a report, as they are printed: what is left out where nothing is to be said, a block with one blank page, a map's row, and the
-- verdict on pages that do not lie in the flash, which is never that they are blank. Assumes nothing.
use mathlib.Core.Path.{◌≡◌, refl}
use mathlib.Core.List.{List, [], ◌∷◌, ◌++◌}
use lib.ListN.{replicate}
use Rattle.control.specs.Blocks.{erase_range}
use Rattle.flash.specs.declared.PageState.{PageState}
use Rattle.flash.specs.declared.PageState.TheVariants.{Blank, Legible}
use Rattle.text.specs.Text.{bytes, digits, filled}
use Rattle.verdict.specs.States.{count_in}
use Rattle.summary.specs.Summary.{lines, left_out_line, pulses_in, pages_in, page_told, map_row, only_line, legible_among, judged_text}

none-left-out : left_out_line 0 ≡ []
none-left-out = refl

some-left-out : left_out_line 12 ≡ bytes "lines left out: 12\n"
unfolding digits filled
some-left-out = refl

pulses : pulses_in (record { completed = 1 ∷ 2 ∷ 3 ∷ 4 ∷ 5 ∷ 6 ∷ []; interrupted = 0 ∷ 0 ∷ 0 ∷ 0 ∷ 0 ∷ 7 ∷ [] }) 5 ≡ bytes "block 5: pulses completed 6, interrupted 7\n"
unfolding digits filled
pulses = refl

-- the first page is blank, and no other
abbrev first_blank : List PageState
first_blank = Blank ∷ replicate 383 Legible

block_0 : pages_in first_blank 0 ≡ bytes "block 0, 0000 to 03FF: 1 pages blank, 7 legible\n"
unfolding pages_in erase_range count_in digits filled
block_0 = refl

legible-ones : lines (page_told first_blank) 0 3 ≡ bytes "legible: page 0080\nlegible: page 0100\n"
unfolding lines digits filled
legible-ones = refl

row : map_row (replicate 95 0x23 ++ 0x2E ∷ []) 2 ≡ bytes "2000 ###############################.\n"
unfolding digits filled
row = refl

page-1 : judged_text first_blank (record { first = 1; pages = 1 }) ≡ bytes "only 0080 to 00FF is judged\nverdict: legible, 1 pages\n"
unfolding judged_text legible_among count_in digits filled
page-1 = refl

page-0 : judged_text first_blank (record { first = 0; pages = 1 }) ≡ bytes "only 0000 to 007F is judged\nverdict: blank\n"
unfolding judged_text legible_among count_in digits filled
page-0 = refl

all-judged : only_line (record { first = 0; pages = 384 }) ≡ []
all-judged = refl

past-the-flash : (states : List PageState) → judged_text states (record { first = 383; pages = 2 }) ≡ bytes "verdict: legible, 2 pages\n"
unfolding judged_text legible_among digits filled
past-the-flash states = refl
