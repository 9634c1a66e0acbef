-- The library's count of a byte's set bits is the definition's: its lowest bit and the count of the others, eight times.
-- Assumes nothing.
use mathlib.Core.Path.{◌≡◌}
use Prim.Native.Nat.{ℕ, ◌<◌, ◌/◌}
use native.Mathlib.Omega.{arith}
use lib.Count.{ones_step}
use Rattle.std.proofs.lemmas.Nat.{ones_le_self}
use Rattle.std.specs.Prelude.{count_ones}
use Rattle.control.specs.Bits.{bit_count}

pub counted : (v : ℕ) → v < 256 → count_ones v ≡ bit_count v
counted v h =
    let a = ones_step v in
    let b = ones_step (v / 2) in
    let c = ones_step (v / 2 / 2) in
    let d = ones_step (v / 2 / 2 / 2) in
    let e = ones_step (v / 2 / 2 / 2 / 2) in
    let f = ones_step (v / 2 / 2 / 2 / 2 / 2) in
    let g = ones_step (v / 2 / 2 / 2 / 2 / 2 / 2) in
    let i = ones_step (v / 2 / 2 / 2 / 2 / 2 / 2 / 2) in
    let j = ones_le_self (v / 2 / 2 / 2 / 2 / 2 / 2 / 2 / 2) in
    omega arith
