-- `charging::amount` meets its contract: a second or more moves a cell further than 64 bits; the raw units of less are the fraction.
-- Assumes nothing.
use mathlib.Core.Path.{◌≡◌, sym}
use Prim.Native.Nat.{ℕ, ◌+◌, ◌-◌, ◌*◌, ◌^◌, ◌<◌, ◌≤◌}
use native.Mathlib.Nat.{min-eq_right, mul-le-mul_right, one-mul}
use native.Mathlib.Omega.{arith}
use Rattle.time.specs.Raw.{span}
use Rattle.cell.specs.Cell.{rate}
use Rattle.cell.specs.declared.Direction.{Direction}
use Rattle.cell.specs.declared.Direction.TheVariants.{Program, Erase}
use Rattle.charging.proofs.amount.Goals as goal

some : (d : Direction) → 0 < rate d
some Program = omega arith
some Erase = omega arith

-- over any width, since omega takes no number of 39 digits
passes : (r h l w : ℕ) → 0 < r → 0 < h → w - 1 ≤ r * (h * w + l)
passes r h l w m n =
    omega (arith, one-mul w, mul-le-mul_right {m = 1} {n = h} w n, one-mul (h * w + l), mul-le-mul_right {m = 1} {n = r} (h * w + l) m)

pub returns-then-lasting-ne0 : goal.returns-then-lasting-ne0
unfolding span
returns-then-lasting-ne0 c =
    let x = c.args in sym (min-eq_right (passes (rate x.direction) x.lasting.0 x.lasting.1 (2 ^ 64) (some x.direction) (omega arith)))

pub returns : goal.returns
unfolding span
returns c =
    let e = c.args.lasting in
    let short : e.0 * 2 ^ 64 + e.1 ≡ e.1 = omega arith in
    rw (c.saturating_mul.ensures, c.rate.ensures, short)
