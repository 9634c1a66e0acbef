-- The calls of the ledger, and the register rules of each: what it does to the registers, whether it settles, how a pulse that it
-- ends has ended. Document 01, "The ledger" and "Pulses and settling".
-- Assumes nothing.
use Rattle.std.specs.Prelude.{ℕ, ◌+◌, Bool, true, false, cond, not, ◌&&◌, eqb}
use Rattle.time.specs.declared.Time.{Time}
use Rattle.cell.specs.declared.Direction.{Direction}
use Rattle.control.specs.Bits.{FENR, FLMCR1, SWE, setup}
use Rattle.registers.specs.declared.Registers.{Registers}
use Rattle.registers.specs.declared.Call.{Call}
use Rattle.registers.specs.declared.Call.TheVariants.{WriteRegister, Write8, Read8, Read16, Protect, Reset, PowerOff, Environment}
use Rattle.registers.specs.declared.Ending.{Ending}
use Rattle.registers.specs.declared.Ending.TheVariants.{Completed, Interrupted}
use Rattle.registers.specs.Access.{write_register}
use Rattle.registers.specs.Latch.{write8}
use Rattle.registers.specs.Pulses.{pulse, is_open, normal, protect, read8, read16}
use Rattle.registers.specs.Environment.{reset, power_off, environment, unchanged}

-- the registers after an accepted call
unfoldable pub next : Call → Time → Registers → Registers
next (WriteRegister a v) now r = write_register a v now r
next (Write8 a v) now r = write8 a v now r
next (Read8 a) now r = read8 now r
next (Read16 a) now r = read16 now r
next Protect now r = protect now r
next Reset now r = reset now r
next PowerOff now r = power_off now r
next (Environment mode modul oscillator) now r = environment mode modul oscillator now r

-- whether a call settles in this state
unfoldable pub settles : Call → Time → Registers → Bool
settles (WriteRegister a v) now r = not (eqb a FENR) && r.enabled
settles (Write8 a v) now r = true
settles (Read8 a) now r = not (normal now r)
settles (Read16 a) now r = not (normal now r)
settles Protect now r = is_open (pulse r)
settles Reset now r = true
settles PowerOff now r = true
settles (Environment mode modul oscillator) now r = not (unchanged mode modul oscillator r)

-- whether a call writes F020
abbrev pub writes_control : Call → Bool
writes_control (WriteRegister a v) = eqb a FLMCR1
writes_control (Write8 a v) = false
writes_control (Read8 a) = false
writes_control (Read16 a) = false
writes_control Protect = false
writes_control Reset = false
writes_control PowerOff = false
writes_control (Environment mode modul oscillator) = false

-- How a pulse that changes has ended: completed if the call was a F020 write leaving only SWE and the matching setup bit in
-- control; else interrupted.
unfoldable pub ending : Direction → Call → ℕ → Ending
ending d c control = cond (writes_control c && eqb control (SWE + setup d)) Completed Interrupted

-- the kinds of end event by their numbers: 2 completed, 3 interrupted
abbrev pub ending_number : Ending → ℕ
ending_number Completed = 2
ending_number Interrupted = 3
