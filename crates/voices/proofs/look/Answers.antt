-- `voices::look` meets its contract: the desk is left as it was but for what is said, or with one line more that is left out.
-- Assumes nothing.
use mathlib.Core.Path.{refl}
use Rattle.voices.proofs.Sights.{left-seen, left-refused}
use Rattle.voices.proofs.look.Goals as goal

pub returns-in-Ok : goal.returns-in-Ok
returns-in-Ok c = let a = c.args in rw c.quiet.ensures (left-seen a.manner _ _ _ _ _ _ _ _ c.in-Ok.ensures refl)

pub returns-in-Err : goal.returns-in-Err
returns-in-Err c =
    let a = c.args in
    rw c.complained.ensures (left-refused a.manner _ _ _ _ a.course _ _ _ c.in-Err.refusal c.in-Err.ensures refl)
