-- The words of a line: what stands between blanks, up to the line's end or its comment. A line is a list of bytes, without its line
-- feed.
-- Assumes nothing.
use Rattle.std.specs.Prelude.{ℕ, ◌+◌, Bool, not, ◌||◌, List, eqb, drop}
use Rattle.std.specs.List.{prefix_len}
use Rattle.words.specs.declared.Word.{Word}

-- a blank: space, tab or carriage return
abbrev pub blank : ℕ → Bool
blank b = eqb b 32 || eqb b 9 || eqb b 13

-- a byte of a word: neither a blank nor `#`, which starts a comment
abbrev pub in_word : ℕ → Bool
in_word b = not (blank b || eqb b 35)

-- where a run of bytes that pass a test ends
abbrev pub past : (ℕ → Bool) → List ℕ → ℕ → ℕ
past test line at = at + prefix_len test (drop at line)

-- The next word from a place on: blanks are skipped. Where there is none, it is empty and stands where it would begin.
unfoldable pub word_at : List ℕ → ℕ → Word
word_at line at = record { from = past blank line at; to = past in_word line (past blank line at) }
