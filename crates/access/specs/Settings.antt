-- The registers that a register write can change, taken out and put back, and what a rule makes of them.
-- Assumes nothing.
use Rattle.std.specs.Prelude.{◌≡◌, None}
use Rattle.control.specs.Verify.{pending_after}
use Rattle.registers.specs.declared.Registers.{Registers}
use Rattle.registers.specs.Fields.{with_verify_pending}
use Rattle.access.specs.declared.Settings.{Settings}

-- the registers that a register write can change, but for a pending sense
abbrev pub settings_of : Registers → Settings
settings_of r =
    record { control = r.control; erase = r.erase; enabled = r.enabled; power_down_disabled = r.power_down_disabled; swe_ready = r.swe_ready; program_ready = r.program_ready; erase_ready = r.erase_ready; recovery = r.recovery; verify_ready = r.verify_ready }

-- registers with these settings and nothing pending
abbrev pub with_settings : Settings → Registers → Registers
with_settings s r =
    record r { control = s.control; erase = s.erase; enabled = s.enabled; power_down_disabled = s.power_down_disabled; swe_ready = s.swe_ready; program_ready = s.program_ready; erase_ready = s.erase_ready; recovery = s.recovery; verify_ready = s.verify_ready; verify_pending = None }

-- settings t are what a rule makes of settings s, whatever the other registers
abbrev pub Changed : (Registers → Registers) → Settings → Settings → Type 0
Changed rule s t = (r : Registers) → with_settings t r ≡ rule (with_settings s r)

-- Registers q that a rule made of r without its pending sense, with that sense where control's change leaves it.
abbrev pub put_back : Registers → Registers → Registers
put_back r q = with_verify_pending (pending_after r.control q.control r.verify_pending) q
