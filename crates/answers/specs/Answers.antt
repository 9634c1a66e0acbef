-- The answers of reads and looks in words, each with the number of its line and a template as it is printed.
-- Assumes nothing.
use Rattle.std.specs.Prelude.{ℕ, Bool, List, [], ◌∷◌, eqb}
use Rattle.cell.specs.Cell.{FULL, pages}
use Rattle.flash.specs.declared.PageState.{PageState}
use Rattle.flash.specs.declared.PageState.TheVariants.{Blank, Legible}
use Rattle.text.specs.Text.{said, either}

-- the answer of a word read or a byte read
abbrev pub answer_said : ℕ → ℕ → ℕ → Bool → List ℕ
answer_said line address value isWord =
    either isWord "line %: the word at $ is $\n" "line %: the read of $ gives &\n" (line ∷ address ∷ value ∷ [])

-- a look at a byte, and the state of its page
abbrev pub byte_said : ℕ → ℕ → ℕ → PageState → List ℕ
byte_said line address value Blank = said "line %: $ reads &, its page is blank\n" (line ∷ address ∷ value ∷ [])
byte_said line address value Legible = said "line %: $ reads &, its page is legible\n" (line ∷ address ∷ value ∷ [])

-- a look at a cell: its charge, of the most that it can hold
abbrev pub cell_said : ℕ → ℕ → ℕ → ℕ → List ℕ
cell_said line address bit charge = said "line %: the cell at $ bit % holds % of %\n" (line ∷ address ∷ bit ∷ charge ∷ FULL ∷ [])

-- a look at the whole array: how many pages are legible
abbrev pub whole_said : ℕ → ℕ → List ℕ
whole_said line legible =
    either (eqb legible 0) "line %: every page is blank\n" "line %: % of % pages are legible\n" (line ∷ legible ∷ pages ∷ [])
