-- The pending verify sense. Document 01, "Registers and latch" and "Verify sensing, looking, snapshot".
-- Assumes nothing.
use Rattle.std.specs.Prelude.{ℕ, Bool, false, cond, not, ◌&&◌, eqb, Option, Some, None}
use Rattle.time.specs.declared.Time.{Time}
use Rattle.control.specs.declared.Supply.{Supply}
use Rattle.control.specs.declared.PendingSense.{PendingSense}
use Rattle.control.specs.Bits.{low}
use Rattle.control.specs.Waits.{reached}
use Rattle.control.specs.Supplies.{is_stopped}

-- A settle at or past the pending instant, not Stopped, senses, and drops the pending under any control.
abbrev pub sense_due : Option PendingSense → Supply → Time → Bool
sense_due None supply now = false
sense_due (Some sense) supply now = reached now sense.at && not (is_stopped supply)

-- A change of P, E, PV or EV drops a pending sense.
abbrev pub pending_after : ℕ → ℕ → Option PendingSense → Option PendingSense
pending_after old new pending = cond (eqb (low old) (low new)) pending None
