-- Light calls: register writes that are accepted while no sense is pending and no pulse is open. They change few of the registers, and
-- nothing outside of them but the last settling.
-- Assumes nothing.
use Rattle.std.specs.Prelude.{ℕ, ◌^◌, Bool, cond, not, ◌&&◌, ◌||◌, eqb, ltb}
use Rattle.time.specs.declared.Time.{Time}
use Rattle.time.specs.Raw.{raw}
use Rattle.control.specs.Bits.{FENR, SWE, ESU, PSU, E, P, has, low}
use Rattle.flash.specs.declared.Flash.{Flash}
use Rattle.lent.specs.Memory.{last_second}
use Rattle.access.specs.declared.Settings.{Settings}
use Rattle.access.specs.Settings.{with_settings}

-- the state with these settings, last settled then
abbrev pub lit : Flash → Settings → Time → Flash
lit f s since =
    record f { registers = with_settings s f.registers; pulse_since = since }

-- whether control opens a pulse, in registers that let it
abbrev pub opens : Bool → ℕ → Bool
opens may control =
    may && has control SWE && ((eqb (low control) P && has control PSU) || (eqb (low control) E && has control ESU))

-- whether a call is a register write, accepted, without an open pulse
unfoldable pub is_light : Bool → ℕ → Time → ℕ → Time → Bool
is_light may control since what t =
    ltb what (2 ^ 24) && not (last_second t) && not (ltb (raw t) (raw since)) && not (opens may control)

-- the last settling after such a write
abbrev pub since_after : Bool → ℕ → Time → Time → Time
since_after enabled address since t = cond (not (eqb address FENR) && enabled) t since
