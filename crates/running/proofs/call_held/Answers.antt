-- `running::call_held` meets its contract: it is the attempt, whose state is kept where the call was made. Assumes nothing.
use Rattle.refusal.proofs.Outcomes.{passed-on}
use Rattle.running.proofs.call_held.Goals as goal

pub returns-in_err-done : goal.returns-in_err-done
returns-in_err-done c = rw (passed-on _ c.from_residual.ensures.1) c.in_err-done.ensures.outcome

pub returns : goal.returns
returns c = c.in_ok-done.ensures.outcome
