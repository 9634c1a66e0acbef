-- A fresh array, reset, power-off, and changes of mode, module and oscillator. Document 01, "Supply and reset".
-- Assumes nothing.
use Rattle.std.specs.Prelude.{ℕ, Bool, true, false, cond, not, ◌&&◌, ◌||◌, List, eqb, replicate, None}
use Rattle.std.specs.Bool.{beq}
use Rattle.time.specs.declared.Time.{Time}
use Rattle.time.specs.Raw.{instant}
use Rattle.cell.specs.Cell.{page_bytes}
use Rattle.control.specs.declared.Mode.{Mode}
use Rattle.control.specs.declared.Mode.TheVariants.{Active}
use Rattle.control.specs.declared.Supply.{Supply}
use Rattle.control.specs.declared.Supply.TheVariants.{Normal, Stopped}
use Rattle.control.specs.Waits.{renewed, swe_rise, psu_rise, esu_rise, supply_wait}
use Rattle.control.specs.Supplies.{mode_number, supply_in, same_supply, same_mode, supplied, starts}
use Rattle.registers.specs.declared.Registers.{Registers}
use Rattle.registers.specs.Fields.{with_control, with_error, with_erase, with_enabled, with_power_down_disabled, with_latch, with_page, with_supply, with_oscillator, with_mode, with_module, with_ready, with_swe_ready, with_program_ready, with_erase_ready, with_recovery, with_verify_pending}
use Rattle.registers.specs.Access.{settled}

-- the latch's 128 bytes FF
unfoldable pub blank_latch : List ℕ
blank_latch = replicate page_bytes 0xFF

-- control, error, erase and pending cleared
abbrev pub cleared : Registers → Registers
cleared r = with_control 0 (with_error false (with_erase 0 (with_verify_pending None r)))

-- Reset settles, clears those four, then enabled and power-down; latch becomes FF, page 0, recovery now.
unfoldable pub reset : Time → Registers → Registers
reset now r =
    with_enabled false (with_power_down_disabled false (with_latch blank_latch (with_page 0 (with_recovery now (cleared (settled now r))))))

-- Power-off is reset, then Stopped, no oscillator, no module.
unfoldable pub power_off : Time → Registers → Registers
power_off now r = with_supply Stopped (with_oscillator false (with_module false (reset now r)))

-- A fresh array has every register, flag and time 0, page 0, latch FF, nothing pending, supply Normal, mode Active, oscillator
-- and module on.
unfoldable pub fresh : Registers
fresh =
    record {
      control = 0;
      error = false;
      erase = 0;
      enabled = false;
      power_down_disabled = false;
      latch = blank_latch;
      page = 0;
      supply = Normal;
      oscillator = true;
      mode = Active;
      «module» = true;
      ready = instant 0;
      swe_ready = instant 0;
      program_ready = instant 0;
      erase_ready = instant 0;
      recovery = instant 0;
      verify_ready = instant 0;
      verify_pending = None;
    }

-- ---- environment

-- the same supply, oscillator, mode and module
unfoldable pub unchanged : Mode → Bool → Bool → Registers → Bool
unchanged mode modul oscillator r =
    same_supply r.supply (supply_in mode modul r.power_down_disabled)
    && beq r.oscillator oscillator
    && same_mode r.mode mode
    && beq r.«module» modul

-- Module lost, or a new mode other than Active and Sleep, clears control, error, erase and pending.
unfoldable pub clears : Mode → Bool → Registers → Bool
clears mode modul r =
    (not modul && r.«module»)
    || (not (same_mode mode r.mode) && not (eqb (mode_number mode) 0 || eqb (mode_number mode) 2))

-- A supply change from not Normal to not Stopped sets ready to now plus 20 µs. Oscillator starting sets the three ready times anew.
unfoldable pub environment_set : Mode → Bool → Bool → Supply → Time → Registers → Registers
environment_set mode modul oscillator supply now r =
    with_supply supply
    (with_oscillator oscillator
    (with_mode mode
    (with_module modul
    (with_ready (renewed (supplied supply r.supply) supply_wait now r.ready)
    (with_swe_ready (renewed (starts oscillator r.oscillator) swe_rise now r.swe_ready)
    (with_program_ready (renewed (starts oscillator r.oscillator) psu_rise now r.program_ready)
    (with_erase_ready (renewed (starts oscillator r.oscillator) esu_rise now r.erase_ready)
    r)))))))

-- `environment` with the same supply, oscillator, mode and module does nothing. Else it settles.
unfoldable pub environment : Mode → Bool → Bool → Time → Registers → Registers
environment mode modul oscillator now r =
    cond (unchanged mode modul oscillator r) r
    (environment_set mode modul oscillator (supply_in mode modul r.power_down_disabled) now
    (cond (clears mode modul r) (cleared (settled now r)) (settled now r)))
