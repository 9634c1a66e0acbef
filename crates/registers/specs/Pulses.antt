-- Pulses: which is open, when reading is normal, and what protection does. Document 01, "Pulses and settling".
-- Assumes nothing.
use Rattle.std.specs.Prelude.{◌/◌, ◌%◌, Bool, true, cond, not, ◌&&◌, eqb, Option, Some, None, is_some}
use Rattle.time.specs.declared.Time.{Time}
use Rattle.time.specs.Raw.{later, after}
use Rattle.cell.specs.declared.Direction.TheVariants.{Program, Erase}
use Rattle.cell.specs.Cell.{page_bytes}
use Rattle.control.specs.Bits.{SWE, ESU, PSU, E, P, has, low}
use Rattle.control.specs.Waits.{reached, trip_wait}
use Rattle.control.specs.Supplies.{is_normal, is_stopped}
use Rattle.control.specs.Blocks.{erase_range}
use Rattle.registers.specs.declared.Registers.{Registers}
use Rattle.registers.specs.declared.Pulse.{Pulse}
use Rattle.registers.specs.Fields.{with_error, with_recovery}
use Rattle.registers.specs.Access.{settled}

-- A pulse's ready instant: the latest of its own ready, SWE-ready, ready and recovery.
abbrev pub ready_for : Time → Registers → Time
ready_for own r = later (later (later own r.swe_ready) r.ready) r.recovery

abbrev pub program_pulse : Registers → Pulse
program_pulse r =
    record { direction = Program; first = r.page / page_bytes; pages = 1; ready = ready_for r.program_ready r }

abbrev pub erase_pulse : Registers → Pulse
erase_pulse r =
    record {
      direction = Erase;
      first = (erase_range r.erase).first;
      pages = (erase_range r.erase).pages;
      ready = ready_for r.erase_ready r;
    }

-- A pulse is open if no error, oscillator on, supply Normal, SWE set, and the low four bits are P alone with PSU (the latched
-- page) or E alone with ESU.
abbrev pub may_pulse : Registers → Bool
may_pulse r = not r.error && r.oscillator && is_normal r.supply

abbrev pub powered : Registers → Bool
powered r = may_pulse r && has r.control SWE

unfoldable pub pulse : Registers → Option Pulse
pulse r =
    cond (powered r)
    (cond (eqb (low r.control) P && has r.control PSU) (Some (program_pulse r))
    (cond (eqb (low r.control) E && has r.control ESU) (Some (erase_pulse r))
    None))
    None

abbrev pub is_open : Option Pulse → Bool
is_open p = is_some p

-- Normal reading: with control's low six bits 0, supply not Stopped and now at or past ready and recovery.
unfoldable pub normal : Time → Registers → Bool
normal now r =
    eqb (r.control % 64) 0 && not (is_stopped r.supply) && reached now r.ready && reached now r.recovery

-- An open pulse trips protection: error, recovery 5 µs (erase 10).
abbrev pub tripped : Option Pulse → Time → Registers → Registers
tripped None now r = r
tripped (Some p) now r = with_error true (with_recovery (later r.recovery (after now (trip_wait p.direction))) r)

-- `protect` without a pulse does nothing.
unfoldable pub protect : Time → Registers → Registers
protect now r = cond (is_open (pulse r)) (tripped (pulse r) now (settled now r)) r

-- Reading: normally nothing changes; else an open pulse trips protection, and without one it settles. A word is then two byte reads.
unfoldable pub read8 : Time → Registers → Registers
read8 now r = cond (normal now r) r (tripped (pulse r) now (settled now r))

unfoldable pub read16 : Time → Registers → Registers
read16 now r = cond (normal now r) r (read8 now (read8 now r))
