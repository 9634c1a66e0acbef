-- Settling as the registers see it, and reading and writing registers. Document 01, "Registers and latch".
-- Assumes nothing.
use Rattle.std.specs.Prelude.{ℕ, cond, not, eqb, None}
use Rattle.time.specs.declared.Time.{Time}
use Rattle.control.specs.Bits.{FLMCR1, FLMCR2, FLPWCR, EBR1, FENR, FLAG, SWE, PSU, ESU, has, rises, flag, control_value, erase_after, erase_value}
use Rattle.control.specs.Waits.{renewed, swe_rise, psu_rise, esu_rise, recovery_after, verify_ready_after}
use Rattle.control.specs.Verify.{sense_due, pending_after}
use Rattle.registers.specs.declared.Registers.{Registers}
use Rattle.registers.specs.Fields.{with_control, with_erase, with_enabled, with_power_down_disabled, with_swe_ready, with_program_ready, with_erase_ready, with_recovery, with_verify_ready, with_verify_pending}

-- the registers after a settle: a sense that was due is no longer pending
unfoldable pub settled : Time → Registers → Registers
settled now r = cond (sense_due r.verify_pending r.supply now) (with_verify_pending None r) r

-- F02B bit 7: enabled. While not enabled the others read 0. F021 bit 7: error. F022 bit 7: power-down disabled. F023: erase.
-- Other addresses read 0.
unfoldable pub register : ℕ → Registers → ℕ
register a r =
    cond (eqb a FENR) (flag r.enabled)
    (cond (not r.enabled) 0
    (cond (eqb a FLMCR1) r.control
    (cond (eqb a FLMCR2) (flag r.error)
    (cond (eqb a FLPWCR) (flag r.power_down_disabled)
    (cond (eqb a EBR1) r.erase 0)))))

-- Control becomes the value. Rising SWE, PSU, ESU set their ready times to now plus 1, 50, 100 µs.
unfoldable pub control_set : ℕ → Time → Registers → Registers
control_set new now r =
    with_control new
    (with_erase (erase_after new r.erase)
    (with_swe_ready (renewed (rises SWE r.control new) swe_rise now r.swe_ready)
    (with_program_ready (renewed (rises PSU r.control new) psu_rise now r.program_ready)
    (with_erase_ready (renewed (rises ESU r.control new) esu_rise now r.erase_ready)
    (with_recovery (recovery_after r.control new now r.recovery)
    (with_verify_ready (verify_ready_after r.control new now r.verify_ready)
    (with_verify_pending (pending_after r.control new r.verify_pending)
    r)))))))

-- A write to one of the others, after it settled; F023 is stored only while SWE is set. F021, and other addresses: nothing.
unfoldable pub register_set : ℕ → ℕ → Time → Registers → Registers
register_set a v now r =
    cond (eqb a FLMCR1) (control_set (control_value v) now r)
    (cond (eqb a FLPWCR) (with_power_down_disabled (has v FLAG) r)
    (cond (eqb a EBR1) (cond (has r.control SWE) (with_erase (erase_value v) r) r)
    r))

-- F02B is always writable, and that write does nothing else, not even settle. While not enabled the others ignore writes;
-- while enabled every write to one of them first settles.
unfoldable pub write_register : ℕ → ℕ → Time → Registers → Registers
write_register a v now r =
    cond (eqb a FENR) (with_enabled (has v FLAG) r)
    (cond r.enabled (register_set a v now (settled now r)) r)
