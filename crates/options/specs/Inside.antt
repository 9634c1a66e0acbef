-- What is promised of the arguments: what their words give, and that the pages asked for lie in the array.
-- Assumes nothing.
use Rattle.std.specs.Prelude.{ℕ, ◌+◌, ◌≤◌, List, Result, ◌≡◌, IfOk}
use Rattle.cell.specs.Cell.{pages}
use Rattle.options.specs.Arguments.{Word, all_bytes, words_of, given_by}
use Rattle.options.specs.Options.{options_of}
use Rattle.options.specs.declared.Asked.{Asked}
use Rattle.options.specs.declared.Asked.TheVariants.{Help, Run}
use Rattle.options.specs.declared.Given.{Given}
use Rattle.options.specs.declared.Trouble.{Trouble}

-- what all words of the text give
pub record AllTaken (args : List ℕ) (g : Given) : Type 0 where
  pub words : List Word
  pub all : all_bytes words ≡ words_of args
  pub is : g ≡ given_by words

-- the pages asked for lie in the array
abbrev pub PagesLie : Asked → Type 0
PagesLie Help = Unit {0}
PagesLie (Run r) = r.judged.first + r.judged.pages ≤ pages

-- what the program is told of its arguments: what their words ask for
pub record Answer (args : List ℕ) (r : Result Asked Trouble) : Type 0 where
  pub words : List Word
  pub all : all_bytes words ≡ words_of args
  pub is : r ≡ options_of words
  pub array : IfOk r PagesLie
