-- What a byte of cells senses: a sum of bits, so it depends on its eight charges alone and is below 256; and first charges normally sense
-- the stored byte, since FULL is above every normal limit and 0 below. Assumes nothing.
use mathlib.Core.Path.{◌≡◌, refl, ap, ◌∙◌}
use mathlib.Core.Bool.{Bool, true, false, cond}
use Prim.Native.Nat.{ℕ, zero, suc, ◌+◌, ◌*◌, ◌/◌, ◌%◌, ◌^◌, ◌<◌, ◌≤◌}
use native.Mathlib.Omega.{arith}
use native.Mathlib.Nat.{mul-le-mul_left, pow-suc, add_comm, mul_comm}
use borrow.Author.Tests.{lt-ltb, le-ltb}
use lib.Pow.{mod-pow-add}
use Rattle.cell.specs.declared.Sense.{Sense}
use Rattle.cell.specs.declared.Sense.TheVariants.{Normal}
use Rattle.cell.specs.Cell.{FULL, class_of, limit_of, senses, sensed_cell, sensed_byte, from_bits, bit, first_charge}
use Rattle.cell.proofs.Class.{class-lt}

-- ---- numbers and their bits

from_bits-same : (n : ℕ) (f g : ℕ → ℕ) → ((k : ℕ) → k < n → f k ≡ g k) → from_bits n f ≡ from_bits n g
unfolding from_bits
from_bits-same zero f g e = refl
from_bits-same (suc n) f g e = rw (from_bits-same n f g (λ k h. e k (omega arith)), e n (omega arith))

from_bits-lt : (n : ℕ) (f : ℕ → ℕ) → ((k : ℕ) → f k ≤ 1) → from_bits n f < 2 ^ n
unfolding from_bits
from_bits-lt zero f e = omega arith
from_bits-lt (suc n) f e = omega (arith, pow-suc 2 n, from_bits-lt n f e, mul-le-mul_left (2 ^ n) (e n))

-- the lowest n bits of b
from_bits-bits : (n b : ℕ) → from_bits n (bit b) ≡ b % 2 ^ n
unfolding from_bits
from_bits-bits zero b = omega arith
from_bits-bits (suc n) b =
    let e : suc n ≡ 1 + n = omega arith in
    rw (from_bits-bits n b, e, mod-pow-add b 1 n, mul_comm (2 ^ n) (bit b n)) (add_comm (b % 2 ^ n) (bit b n * 2 ^ n))

-- ---- a byte of cells

sensed_cell-le : (m : Sense) (i q : ℕ) → sensed_cell m i q ≤ 1
unfolding sensed_cell
sensed_cell-le m i q = at (senses m (class_of i) q)
  where
    at : (t : Bool) → cond t 1 0 ≤ 1
    at true = omega arith
    at false = omega arith

pub sensed_byte-same : (m : Sense) (a : ℕ) (q q' : ℕ → ℕ) → ((k : ℕ) → k < 8 → q k ≡ q' k) → sensed_byte m a q ≡ sensed_byte m a q'
unfolding sensed_byte
sensed_byte-same m a q q' e = from_bits-same 8 _ _ (λ k h. ap (sensed_cell m (8 * a + k)) (e k h))

pub sensed_byte-lt : (m : Sense) (a : ℕ) (q : ℕ → ℕ) → sensed_byte m a q < 256
unfolding sensed_byte
sensed_byte-lt m a q = from_bits-lt 8 _ (λ k. sensed_cell-le m (8 * a + k) (q k))

-- ---- first charges

first-sensed-cell : (i x : ℕ) → x < 2 → sensed_cell Normal i (first_charge x) ≡ x
unfolding sensed_cell senses limit_of
first-sensed-cell i zero h =
    let g : FULL * (16 + class_of i) / 62 ≤ FULL = omega (arith, class-lt i) in
    rw (le-ltb FULL (FULL * (16 + class_of i) / 62) g)
first-sensed-cell i (suc zero) h =
    let g : 0 < FULL * (16 + class_of i) / 62 = omega arith in
    rw (lt-ltb 0 (FULL * (16 + class_of i) / 62) g)
first-sensed-cell i (suc (suc x)) h = absurd (omega arith)

pub first-sensed : (a b : ℕ) → b < 256 → sensed_byte Normal a (λ k. first_charge (bit b k)) ≡ b
unfolding sensed_byte
first-sensed a b h =
    from_bits-same 8 _ (bit b) (λ k h. first-sensed-cell (8 * a + k) (bit b k) (omega arith))
    ∙ from_bits-bits 8 b
    ∙ omega arith
