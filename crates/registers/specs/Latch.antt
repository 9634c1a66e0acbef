-- The data write. Document 01, "Registers and latch".
-- Assumes nothing.
use Rattle.std.specs.Prelude.{ℕ, ◌*◌, ◌/◌, ◌%◌, Bool, cond, ◌&&◌, eqb, set, Some}
use Rattle.time.specs.declared.Time.{Time}
use Rattle.time.specs.Raw.{later, after}
use Rattle.cell.specs.Cell.{page_bytes}
use Rattle.control.specs.Bits.{SWE, has, low, verifies}
use Rattle.control.specs.Waits.{reached, sense_wait}
use Rattle.control.specs.Supplies.{is_normal}
use Rattle.registers.specs.declared.Registers.{Registers}
use Rattle.registers.specs.Fields.{with_latch, with_page, with_verify_pending}
use Rattle.registers.specs.Access.{settled}

-- Ignored without SWE, before SWE-ready, with supply not Normal or the oscillator off.
abbrev pub takes_data : Time → Registers → Bool
takes_data now r = has r.control SWE && reached now r.swe_ready && is_normal r.supply && r.oscillator

-- The byte is latched at address mod 128 and the page is the address's.
abbrev pub latched : ℕ → ℕ → Registers → Registers
latched a v r = with_latch (set r.latch (a % page_bytes) v) (with_page (a / page_bytes * page_bytes) r)

-- A sense of the aligned four bytes becomes pending for the latest of now plus 2 µs, verify-ready, recovery, ready.
abbrev pub sense_pending : ℕ → Time → Registers → Registers
sense_pending a now r =
    with_verify_pending (Some (record { address = a / 4 * 4; at = later (later (later (after now sense_wait) r.verify_ready) r.recovery) r.ready })) r

-- With control's low four bits 0 and now at or past recovery: latched. Under PV alone or EV alone: pending. Otherwise nothing.
unfoldable pub data_taken : ℕ → ℕ → Time → Registers → Registers
data_taken a v now r =
    cond (eqb (low r.control) 0 && reached now r.recovery) (latched a v r)
    (cond (verifies r.control) (sense_pending a now r) r)

unfoldable pub data_write : ℕ → ℕ → Time → Registers → Registers
data_write a v now r = cond (takes_data now r) (data_taken a v now r) r

unfoldable pub write8 : ℕ → ℕ → Time → Registers → Registers
write8 a v now r = data_write a v now (settled now r)
