-- A loop that replaces a page's cells byte by byte, with a loop over eight cells inside: what the inner one knows, and which bit a cell has.
-- Assumes nothing.
use mathlib.Core.Path.{◌≡◌}
use mathlib.Core.List.{List}
use Prim.Native.Nat.{ℕ, ◌+◌, ◌*◌, ◌/◌, ◌%◌, ◌<◌}
use native.Mathlib.Omega.{arith}
use Rattle.lists.specs.Lists.{at}
use Rattle.cell.specs.Cell.{bit, page_bit}
use Rattle.lists.proofs.Partly.{partly}

-- In a loop inside another: a list that became ys in n turns has become zs in m turns.
abbrev pub Further : (ℕ → ℕ → ℕ) → ℕ → ℕ → List ℕ → List ℕ → Type 0
Further f n m ys zs = (xs : List ℕ) → ys ≡ partly f n xs → zs ≡ partly f m xs

-- the bit of the cell k of the byte i
pub cell-bit : (bytes : List ℕ) (i k : ℕ) → k < 8 → page_bit bytes (8 * i + k) ≡ bit (at bytes i) k
unfolding page_bit
cell-bit bytes i k h =
    let d : (8 * i + k) / 8 ≡ i = omega arith in
    let m : (8 * i + k) % 8 ≡ k = omega arith in
    rw (d, m)
