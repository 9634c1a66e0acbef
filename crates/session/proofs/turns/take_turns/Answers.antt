-- `session::turns::take_turns` meets its contract: what the turns so far did, and then one more. Where that fails, they are all that was
-- done. Assumes nothing.
use Rattle.session.proofs.Gone.{goes-nowhere, goes_on, same-bench, still-bench, on-failure}
use Rattle.session.proofs.turns.take_turns.Goals as goal

pub loop-init : goal.loop-init
loop-init g c = record { same = same-bench _; goes = goes-nowhere _ _ _ }

pub loop-preserved : goal.loop-preserved
loop-preserved g c =
    record {
      same = still-bench c.loop.invariant.same c.turn.ensures.same;
      goes = goes_on _ _ _ _ _ _ _ c.loop.invariant.goes c.in_ok-r.ensures.goes;
    }

pub returns-in_err-r-clause-same : goal.returns-in_err-r-clause-same
returns-in_err-r-clause-same g c = still-bench c.loop.invariant.same c.turn.ensures.same

pub returns-in_err-r-clause-failed : goal.returns-in_err-r-clause-failed
returns-in_err-r-clause-failed g c =
    let unmoved = c.in_err-r.ensures.failed in
    on-failure c.from_residual.result (record { last = c.loop.r; goes = rw (unmoved.0, unmoved.1) c.loop.invariant.goes })

pub returns-then-is_over-clause-same : goal.returns-then-is_over-clause-same
returns-then-is_over-clause-same g c = still-bench c.loop.invariant.same c.turn.ensures.same

pub returns-then-is_over-clause-goes : goal.returns-then-is_over-clause-goes
returns-then-is_over-clause-goes g c = goes_on _ _ _ _ _ _ _ c.loop.invariant.goes c.in_ok-r.ensures.goes
