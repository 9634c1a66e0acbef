-- How much of a text a run keeps. Assumes nothing.
use Rattle.std.specs.Prelude.{ℕ}

-- the longest line
abbrev pub longest : ℕ
longest = 1000

-- so many calls may wait
abbrev pub room : ℕ
room = 1024
