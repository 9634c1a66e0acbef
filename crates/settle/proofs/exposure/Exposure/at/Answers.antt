-- `settle::exposure::Exposure::at` meets its contract: without a pulse nothing changes, and both exposures are the same number.
-- Assumes nothing.
use Rattle.time.proofs.Laws.{span-since}
use Rattle.settle.specs.Settling.{settled_by, exposure}
use Rattle.settle.proofs.exposure.Exposure.at.Goals as goal

pub returns-in_err-pulse-clause-settles : goal.returns-in_err-pulse-clause-settles
unfolding settled_by
returns-in_err-pulse-clause-settles c = λ k. rw (c.in_err-pulse.was, c.from_residual.ensures)

pub returns-clause-settles : goal.returns-clause-settles
unfolding settled_by exposure
returns-clause-settles c = λ k. rw c.in_ok-pulse.was (rw (c.since-length.ensures, c.max.ensures, span-since) at (c.lasting.ensures.leaves k))
