-- The lines of a report: calls, pulses and pages of each block, each legible page, and the verdict. Each is a template as it is printed.
-- Assumes nothing.
use Rattle.std.specs.Prelude.{ℕ, List, [], ◌∷◌, eqb}
use Rattle.text.specs.Text.{said, either}

-- how many calls were made, and how many of them were refused
abbrev pub call_lines : ℕ → ℕ → List ℕ
call_lines made refused = said "calls made: %\ncalls refused: %\n" (made ∷ refused ∷ [])

-- how many pulses over a block ended, completed and interrupted
abbrev pub pulse_line : ℕ → ℕ → ℕ → List ℕ
pulse_line block completed interrupted = said "block %: pulses completed %, interrupted %\n" (block ∷ completed ∷ interrupted ∷ [])

-- a block's first and last address, and how many of its pages are blank and legible
abbrev pub page_line : ℕ → ℕ → ℕ → ℕ → ℕ → List ℕ
page_line block first last blank legible =
    said "block %, $ to $: % pages blank, % legible\n" (block ∷ first ∷ last ∷ blank ∷ legible ∷ [])

-- a legible page, by its first address
abbrev pub legible_line : ℕ → List ℕ
legible_line address = said "legible: page $\n" (address ∷ [])

-- blank if no page is legible
abbrev pub verdict_line : ℕ → List ℕ
verdict_line legible = either (eqb legible 0) "verdict: blank\n" "verdict: legible, % pages\n" (legible ∷ [])

-- the head of a picture with a dot for each of the 393,216 cells, in 256 shades of grey
abbrev pub picture_head : List ℕ
picture_head = said "P5\n768 512\n255\n" []
