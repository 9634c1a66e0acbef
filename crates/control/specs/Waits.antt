-- The waits, in microseconds, and the instants that they set. Document 01, "Registers and latch".
-- Assumes nothing.
use Rattle.std.specs.Prelude.{ℕ, Bool, cond, ◌||◌, leb}
use Rattle.time.specs.declared.Time.{Time}
use Rattle.time.specs.Raw.{raw, later, after}
use Rattle.cell.specs.declared.Direction.{Direction}
use Rattle.cell.specs.declared.Direction.TheVariants.{Program, Erase}
use Rattle.control.specs.Bits.{SWE, ESU, PSU, EV, PV, E, P, has, falls, rises}

-- whether an instant is at or past another
abbrev pub reached : Time → Time → Bool
reached now at = leb (raw at) (raw now)

-- an instant raised to at least now plus n microseconds, and one set to it
abbrev pub raised : Bool → ℕ → Time → Time → Time
raised due n now t = cond due (later t (after now n)) t

abbrev pub renewed : Bool → ℕ → Time → Time → Time
renewed due n now t = cond due (after now n) t

-- Falling bits raise recovery to at least now plus: P or PSU 5 µs, E or ESU 10, PV 2, EV 4, SWE 100.
abbrev pub program_fall : ℕ
program_fall = 5

abbrev pub erase_fall : ℕ
erase_fall = 10

abbrev pub pv_fall : ℕ
pv_fall = 2

abbrev pub ev_fall : ℕ
ev_fall = 4

abbrev pub swe_fall : ℕ
swe_fall = 100

unfoldable pub recovery_after : ℕ → ℕ → Time → Time → Time
recovery_after old new now t =
    raised (falls SWE old new) swe_fall now
    (raised (falls EV old new) ev_fall now
    (raised (falls PV old new) pv_fall now
    (raised (falls E old new || falls ESU old new) erase_fall now
    (raised (falls P old new || falls PSU old new) program_fall now t))))

-- Rising SWE, PSU, ESU set their ready times to now plus 1, 50, 100 µs.
abbrev pub swe_rise : ℕ
swe_rise = 1

abbrev pub psu_rise : ℕ
psu_rise = 50

abbrev pub esu_rise : ℕ
esu_rise = 100

-- Rising PV or EV sets verify-ready to now plus 20 if the value has EV, else 4.
abbrev pub ev_rise : ℕ
ev_rise = 20

abbrev pub pv_rise : ℕ
pv_rise = 4

unfoldable pub verify_ready_after : ℕ → ℕ → Time → Time → Time
verify_ready_after old new now t = renewed (rises PV old new || rises EV old new) (cond (has new EV) ev_rise pv_rise) now t

-- A sense becomes pending for now plus 2 µs at the earliest.
abbrev pub sense_wait : ℕ
sense_wait = 2

-- A supply change from not Normal to not Stopped sets ready to now plus 20 µs.
abbrev pub supply_wait : ℕ
supply_wait = 20

-- Protection raises recovery by 5 µs (erase 10).
abbrev pub trip_wait : Direction → ℕ
trip_wait Program = program_fall
trip_wait Erase = erase_fall
