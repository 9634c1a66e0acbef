-- The rule of one cell: exposures add up, charges stay at or below FULL, and an exposure may be clipped to 64 bits, since no charge moves further.
-- Assumes nothing.
use mathlib.Core.Path.{◌≡◌, refl, ap}
use mathlib.Core.Bool.{Bool, true, false, cond}
use Prim.Native.Nat.{ℕ, ◌+◌, ◌-◌, ◌*◌, ◌^◌, ◌<◌, ◌≤◌, min}
use native.Mathlib.Omega.{arith}
use lib.Dec.{eqb}
use Rattle.cell.specs.declared.Direction.{Direction}
use Rattle.cell.specs.declared.Direction.TheVariants.{Program, Erase}
use Rattle.cell.specs.Cell.{FULL, rate, moved, exposed, first_charge}

pub exposures-add : (d : Direction) (b l m q : ℕ) → exposed d b m (exposed d b l q) ≡ exposed d b (l + m) q
unfolding exposed moved
exposures-add Program b l m q = at (eqb b 0)
  where
    at : (t : Bool)
        → cond t (min (cond t (min (q + 100 * l) FULL) q + 100 * m) FULL) (cond t (min (q + 100 * l) FULL) q)
        ≡ cond t (min (q + 100 * (l + m)) FULL) q
    at true = omega arith
    at false = refl
exposures-add Erase b l m q = omega arith

pub exposed-full : (d : Direction) (b l q : ℕ) → q ≤ FULL → exposed d b l q ≤ FULL
unfolding exposed moved
exposed-full Program b l q h = at (eqb b 0)
  where
    at : (t : Bool) → cond t (min (q + 100 * l) FULL) q ≤ FULL
    at true = omega arith
    at false = h
exposed-full Erase b l q h = omega arith

pub first_charge-full : (b : ℕ) → first_charge b ≤ FULL
first_charge-full b = at (eqb b 1)
  where
    at : (t : Bool) → cond t 0 FULL ≤ FULL
    at true = omega arith
    at false = omega arith

clipped : (d : Direction) (b x q : ℕ) → q < 2 ^ 64 → moved d b (min x (2 ^ 64 - 1)) q ≡ moved d b x q
unfolding moved
clipped Program b x q h = ap (λ (z : ℕ). cond (eqb b 0) z q) (omega arith)
clipped Erase b x q h = omega arith

-- the amount of an exposure, clipped to 64 bits
pub clipped-exposes : (d : Direction) (b l a q : ℕ) → a ≡ min (rate d * l) (2 ^ 64 - 1) → q < 2 ^ 64 → moved d b a q ≡ exposed d b l q
unfolding exposed
clipped-exposes d b l a q e h = rw e (clipped d b (rate d * l) q h)
