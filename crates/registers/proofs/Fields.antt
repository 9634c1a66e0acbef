-- Each change of one field: the field is what it was set to and every other is as it was, its own value changes nothing, and the last
-- change counts. Assumes nothing.
use mathlib.Core.Path.{refl}
use Rattle.registers.specs.declared.Registers.{Registers}
use Rattle.registers.specs.Fields.Value.{number, flag, bytes, supply, mode, time, pending}
use Rattle.registers.specs.Fields.{Changes, with_control, with_error, with_erase, with_enabled, with_power_down_disabled, with_latch, with_page, with_supply, with_oscillator, with_mode, with_module, with_ready, with_swe_ready, with_program_ready, with_erase_ready, with_recovery, with_verify_ready, with_verify_pending}

changes-control : Changes 0 number (λ (r : Registers). r.control) with_control
changes-control = record { alone = λ x r. refl; sets = λ x r. refl; keeps = λ r. refl; lasts = λ x y r. refl }

changes-error : Changes 1 flag (λ (r : Registers). r.error) with_error
changes-error = record { alone = λ x r. refl; sets = λ x r. refl; keeps = λ r. refl; lasts = λ x y r. refl }

changes-erase : Changes 2 number (λ (r : Registers). r.erase) with_erase
changes-erase = record { alone = λ x r. refl; sets = λ x r. refl; keeps = λ r. refl; lasts = λ x y r. refl }

changes-enabled : Changes 3 flag (λ (r : Registers). r.enabled) with_enabled
changes-enabled = record { alone = λ x r. refl; sets = λ x r. refl; keeps = λ r. refl; lasts = λ x y r. refl }

changes-power-down-disabled : Changes 4 flag (λ (r : Registers). r.power_down_disabled) with_power_down_disabled
changes-power-down-disabled = record { alone = λ x r. refl; sets = λ x r. refl; keeps = λ r. refl; lasts = λ x y r. refl }

changes-latch : Changes 5 bytes (λ (r : Registers). r.latch) with_latch
changes-latch = record { alone = λ x r. refl; sets = λ x r. refl; keeps = λ r. refl; lasts = λ x y r. refl }

changes-page : Changes 6 number (λ (r : Registers). r.page) with_page
changes-page = record { alone = λ x r. refl; sets = λ x r. refl; keeps = λ r. refl; lasts = λ x y r. refl }

changes-supply : Changes 7 supply (λ (r : Registers). r.supply) with_supply
changes-supply = record { alone = λ x r. refl; sets = λ x r. refl; keeps = λ r. refl; lasts = λ x y r. refl }

changes-oscillator : Changes 8 flag (λ (r : Registers). r.oscillator) with_oscillator
changes-oscillator = record { alone = λ x r. refl; sets = λ x r. refl; keeps = λ r. refl; lasts = λ x y r. refl }

changes-mode : Changes 9 mode (λ (r : Registers). r.mode) with_mode
changes-mode = record { alone = λ x r. refl; sets = λ x r. refl; keeps = λ r. refl; lasts = λ x y r. refl }

changes-module : Changes 10 flag (λ (r : Registers). r.«module») with_module
changes-module = record { alone = λ x r. refl; sets = λ x r. refl; keeps = λ r. refl; lasts = λ x y r. refl }

changes-ready : Changes 11 time (λ (r : Registers). r.ready) with_ready
changes-ready = record { alone = λ x r. refl; sets = λ x r. refl; keeps = λ r. refl; lasts = λ x y r. refl }

changes-swe-ready : Changes 12 time (λ (r : Registers). r.swe_ready) with_swe_ready
changes-swe-ready = record { alone = λ x r. refl; sets = λ x r. refl; keeps = λ r. refl; lasts = λ x y r. refl }

changes-program-ready : Changes 13 time (λ (r : Registers). r.program_ready) with_program_ready
changes-program-ready = record { alone = λ x r. refl; sets = λ x r. refl; keeps = λ r. refl; lasts = λ x y r. refl }

changes-erase-ready : Changes 14 time (λ (r : Registers). r.erase_ready) with_erase_ready
changes-erase-ready = record { alone = λ x r. refl; sets = λ x r. refl; keeps = λ r. refl; lasts = λ x y r. refl }

changes-recovery : Changes 15 time (λ (r : Registers). r.recovery) with_recovery
changes-recovery = record { alone = λ x r. refl; sets = λ x r. refl; keeps = λ r. refl; lasts = λ x y r. refl }

changes-verify-ready : Changes 16 time (λ (r : Registers). r.verify_ready) with_verify_ready
changes-verify-ready = record { alone = λ x r. refl; sets = λ x r. refl; keeps = λ r. refl; lasts = λ x y r. refl }

changes-verify-pending : Changes 17 pending (λ (r : Registers). r.verify_pending) with_verify_pending
changes-verify-pending = record { alone = λ x r. refl; sets = λ x r. refl; keeps = λ r. refl; lasts = λ x y r. refl }
