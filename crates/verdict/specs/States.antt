-- How many pages are in a state, over the array of the states of all pages. Assumes nothing.
use Rattle.std.specs.Prelude.{ℕ, ◌+◌, Bool, List, [], ◌∷◌, eqb, take, drop, count_by}
use Rattle.control.specs.Blocks.{erase_range}
use Rattle.flash.specs.declared.PageState.{PageState}
use Rattle.flash.specs.declared.PageState.TheVariants.{Blank, Legible}

-- the states by numbers, which tell them apart
abbrev pub state_number : PageState → ℕ
state_number Blank = 0
state_number Legible = 1

abbrev pub same_state : PageState → PageState → Bool
same_state a b = eqb (state_number a) (state_number b)

-- how many of n pages from page p on are in a state
unfoldable pub count_in : PageState → List PageState → ℕ → ℕ → ℕ
count_in state states p n = count_by (same_state state) (take n (drop p states))

-- how many pages are in a state in all of the blocks that these erase values select
unfoldable pub count_over : PageState → List PageState → List ℕ → ℕ
count_over state states [] = 0
count_over state states (e ∷ es) = count_in state states (erase_range e).first (erase_range e).pages + count_over state states es
