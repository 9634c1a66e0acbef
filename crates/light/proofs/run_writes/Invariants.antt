-- `light::run_writes` meets its contract. The loop's invariant: a replay goes on from here, with the settings put back into the
-- state, as it does from the first call; and it has not come past both bounds. Assumes nothing.
use Prim.Native.Nat.{◌≤◌, max}
use Rattle.listing.specs.Held.{Onward}
use Rattle.light.specs.Writes.{lit}
use Rattle.light.proofs.run_writes.Given as goal

abbrev pub invariant-loop-i : goal.invariant-loop-i
invariant-loop-i l = Onward l.end l.calls l.from l.flash l.i (lit l.flash l.settings l.since) × (l.i ≤ max l.from l.end)
