-- Each read that gives bytes leaves fewer to be read.
use Rattle.std.proofs.Common.{length, ◌-◌}
use Rattle.telling.proofs.reading.read_full.Given as goal

abbrev pub decreases-loop-done : goal.decreases-loop-done
decreases-loop-done g l = length l.initial.buffer - l.done
