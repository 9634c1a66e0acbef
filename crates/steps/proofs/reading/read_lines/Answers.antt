-- `steps::reading::read_lines` meets its contract: what the lines so far did, and then one more. Assumes nothing.
use Rattle.steps.proofs.Lines.{no_bytes, more-lines}
use Rattle.steps.proofs.reading.read_lines.Goals as goal

pub loop-backlog-init : goal.loop-backlog-init
loop-backlog-init c = no_bytes _ _ _ c.requires

pub loop-backlog-preserved : goal.loop-backlog-preserved
loop-backlog-preserved c = more-lines c.loop-backlog.invariant c.read_on-p.ensures.1
