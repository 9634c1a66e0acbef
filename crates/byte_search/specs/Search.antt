-- A stretch of a list, and where a byte first stands in one. Assumes nothing.
use Rattle.std.specs.Prelude.{ℕ, ◌-◌, List, take, drop, eqb}
use Rattle.std.specs.List.{position_or_len}

-- the elements from place `from` up to `to`
abbrev pub slice : ℕ → ℕ → List ℕ → List ℕ
slice from to xs = take (to - from) (drop from xs)

-- the first place of a byte, or the length where it does not stand there
abbrev pub index_of : ℕ → List ℕ → ℕ
index_of byte xs = position_or_len (λ b. eqb b byte) xs
