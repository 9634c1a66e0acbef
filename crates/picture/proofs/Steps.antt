-- Shades by steps: 255 steps are FULL + 5, so that the shade s begins at s steps less floor (s / 51). The products stay variables where
-- orders are shown, so that no number gets long. Assumes nothing.
use mathlib.Core.Path.{◌≡◌, sym, ap, ◌∙◌}
use Prim.Native.Nat.{ℕ, ◌+◌, ◌-◌, ◌*◌, ◌/◌, ◌<◌, ◌≤◌, min}
use native.Mathlib.Nat.{div-eq_of_lt-le, div-mul-le_self, lt-div-mul-add}
use native.Mathlib.Omega.{arith}
use Rattle.cell.specs.Cell.{FULL}
use Rattle.picture.specs.Shades.{shade_of}

abbrev step : ℕ
step = 50638120986653671

-- where shade s begins
abbrev begins : ℕ → ℕ
begins s = s * step - s / 51

steps : (s : ℕ) → 255 * (s * step) ≡ s * FULL + 5 * s
steps s = omega arith

reached : (s q : ℕ) → begins s ≤ q → s * FULL ≤ q * 255
reached s q h = by (s * step) (s * FULL) (s / 51) (steps s) (omega arith) h
  where
    by : (x y j : ℕ) → 255 * x ≡ y + 5 * s → 51 * j ≤ s → x - j ≤ q → y ≤ q * 255
    by x y j e k h = omega arith

short : (s q : ℕ) → q < begins s → q * 255 < s * FULL
short s q h = by (s * step) (s * FULL) (s / 51) (steps s) (omega arith) h
  where
    by : (x y j : ℕ) → 255 * x ≡ y + 5 * s → s < 51 * j + 51 → q < x - j → q * 255 < y
    by x y j e k h = omega arith

-- from where a shade begins to where the next does
between : (s q : ℕ) → s ≤ 255 → begins s ≤ q → q < begins (s + 1) → s ≡ shade_of q
unfolding shade_of
between s q small low high =
    let e : min s 255 ≡ s = omega arith in
    sym (ap (λ (n : ℕ). min n 255) (div-eq_of_lt-le FULL (reached s q low) (short (s + 1) q high)) ∙ e)

pub shade-full : (q : ℕ) → FULL ≤ q → 255 ≡ shade_of q
unfolding shade_of
shade-full q h = omega arith

module _ (q : ℕ) (h : q < FULL) where
  -- so many whole steps are in a charge, and shades below 255
  whole : (q / step * step ≤ q) × (q < q / step * step + step) × (q / step < 255)
  whole = (div-mul-le_self q step, lt-div-mul-add (omega arith), omega arith)

  pub shade-next : begins (q / step + 1) ≤ q → q / step + 1 ≡ shade_of q
  shade-next low =
      between (q / step + 1) q (omega (arith, whole.2)) low
      (by (q / step) (q / step * step) ((q / step + 1 + 1) * step) ((q / step + 1 + 1) / 51) whole.1 whole.2 (omega arith) (omega arith))
    where
      by : (s x y j : ℕ) → q < x + step → s < 255 → y ≡ x + step + step → j ≤ s + 1 + 1 → q < y - j
      by s x y j k small e b = omega arith

  pub shade-low : q < begins (q / step + 1) → q / step ≡ shade_of q
  shade-low high = between (q / step) q (omega (arith, whole.2)) (by (q / step * step) (q / step / 51) whole.0) high
    where
      by : (x j : ℕ) → x ≤ q → x - j ≤ q
      by x j k = omega arith

pub ruleset shades = (shade-full, shade-next, shade-low)
