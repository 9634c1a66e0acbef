-- `steps::reading::read_lines` meets its contract: what the lines so far did, and then one more. Assumes nothing.
use Prim.Native.Nat.{◌-◌}
use lib.ListN.{length}
use Rattle.steps.specs.Stepping.{Reads}
use Rattle.steps.proofs.reading.read_lines.Given as goal

abbrev pub invariant-loop-backlog : goal.invariant-loop-backlog
invariant-loop-backlog l = Reads l.initial.p l.initial.backlog l.piece l.p l.backlog

abbrev pub decreases-loop-backlog : goal.decreases-loop-backlog
decreases-loop-backlog l = length l.piece - l.p.at
