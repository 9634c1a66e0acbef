-- A pulse lies inside the array: the latched page does if its address does, and so does each of the blocks that the erase register
-- selects. Assumes nothing.
use mathlib.Core.Bool.{Bool, true, false, cond, ◌&&◌}
use Prim.Native.Nat.{ℕ, ◌+◌, ◌<◌, ◌≤◌}
use native.Mathlib.Omega.{arith}
use lib.Dec.{eqb}
use Rattle.std.specs.Prelude.{Option}
use Rattle.cell.specs.Cell.{array_bytes, pages}
use Rattle.control.specs.declared.Range.{Range}
use Rattle.control.specs.Bits.{ESU, PSU, E, P, has, low}
use Rattle.control.specs.Blocks.{erase_range}
use Rattle.registers.specs.declared.Registers.{Registers}
use Rattle.registers.specs.Pulses.{powered, pulse}
use Rattle.registers.specs.declared.Pulse.{Pulse}
use Rattle.settle.specs.Settling.{range_end}

either-block : (b : Bool) (x y : Range) → x.first + x.pages ≤ pages → y.first + y.pages ≤ pages → (cond b x y).first + (cond b x y).pages ≤ pages
either-block true x y h k = h
either-block false x y h k = k

erase-inside : (e : ℕ) → (erase_range e).first + (erase_range e).pages ≤ pages
unfolding erase_range
erase-inside e =
    either-block (eqb e 1) _ _ (omega arith)
    (either-block (eqb e 2) _ _ (omega arith)
    (either-block (eqb e 4) _ _ (omega arith)
    (either-block (eqb e 8) _ _ (omega arith)
    (either-block (eqb e 16) _ _ (omega arith)
    (either-block (eqb e 32) _ _ (omega arith)
    (omega arith))))))

either-inside : (b : Bool) (o o' : Option Pulse) → range_end o ≤ pages → range_end o' ≤ pages → range_end (cond b o o') ≤ pages
either-inside true o o' h k = h
either-inside false o o' h k = k

pub pulse_inside : (r : Registers) → r.page < array_bytes → range_end (pulse r) ≤ pages
unfolding pulse
pulse_inside r h =
    either-inside (powered r) _ _
    (either-inside (eqb (low r.control) P && has r.control PSU) _ _ (omega arith)
    (either-inside (eqb (low r.control) E && has r.control ESU) _ _ (erase-inside r.erase) (omega arith)))
    (omega arith)
