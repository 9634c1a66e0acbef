-- Classes are below 16, and repeat every 256 cells: 13i and floor(i/16) modulo 16 depend on i modulo 256 alone.
-- Assumes nothing.
use mathlib.Core.Path.{◌≡◌, sym, ap, ◌∙◌}
use Prim.Native.Nat.{ℕ, ◌+◌, ◌*◌, ◌/◌, ◌%◌, ◌<◌}
use native.Mathlib.Omega.{arith}
use native.Mathlib.Nat.{add-mul-mod_self_left}
use lib.Pow.{field}
use lib.Bits.{bit_xor, xor_mod}
use Rattle.cell.specs.Cell.{class_of}

pub class-lt : (i : ℕ) → class_of i < 16
unfolding class_of
class-lt i = omega arith

pub class-256 : (i : ℕ) → class_of (i % 256) ≡ class_of i
unfolding class_of
class-256 i =
    let e : 13 * i ≡ 13 * (i % 256) + 16 * (208 * (i / 256)) = omega arith in
    let p : 13 * (i % 256) % 16 ≡ 13 * i % 16 = sym (ap (λ (x : ℕ). x % 16) e ∙ add-mul-mod_self_left (13 * (i % 256)) 16 (208 * (i / 256))) in
    let r : i % 256 / 16 ≡ i / 16 % 16 = field i 4 4 in
    let q : i % 256 / 16 % 16 ≡ i / 16 % 16 = ap (λ (x : ℕ). x % 16) r ∙ omega arith in
    xor_mod (13 * (i % 256)) (i % 256 / 16) 4 ∙ (λ j. bit_xor (p j) (q j)) ∙ sym (xor_mod (13 * i) (i / 16) 4)
