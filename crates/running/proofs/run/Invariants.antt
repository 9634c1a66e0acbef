-- `running::run` meets its contract. The loop's invariant: the replay has come here from the first call, and has given no event
-- words. Assumes nothing.
use Prim.Native.Nat.{◌-◌}
use Rattle.flash.specs.Chip.{chip}
use Rattle.listing.proofs.Steps.{Gone}
use Rattle.running.proofs.run.Given as goal

abbrev pub invariant-loop-i : goal.invariant-loop-i
invariant-loop-i l =
    Gone l.end l.calls l.initial.i (chip l.initial.flash l.initial.array l.initial.charges) l.initial.events l.i (chip l.flash l.array l.charges) l.events

abbrev pub decreases-loop-i : goal.decreases-loop-i
decreases-loop-i l = l.end - l.i
