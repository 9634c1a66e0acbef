-- `attempt::attempt` meets its contract: the call is refused, or performed on a chip that fits. Assumes nothing.
use mathlib.Core.Path.{sym}
use Rattle.refusal.proofs.Outcomes.{passed-on}
use Rattle.lent.proofs.Tells.{passes, limit-above}
use Rattle.lent.proofs.Holding.{replied-refused, replied-done}
use Rattle.attempt.proofs.attempt.Goals as goal

pub returns-in_err-now : goal.returns-in_err-now
returns-in_err-now c =
    rw (passed-on _ c.from_residual.ensures.1) (record { outcome = replied-refused _ _ _ _ _ c.in_err-now.ensures.told; limit = limit-above _ })

pub perform-requires : goal.perform-requires
perform-requires c =
    let p = passes _ _ _ _ (sym c.in_ok-now.ensures.told) in
    record { fit = c.requires; placed = rw c.into.ensures p.placed_is; room = rw (c.into.ensures, c.in_ok-now.ensures.asked) p.enough }

pub returns : goal.returns
returns c =
    let p = rw (c.into.ensures, c.in_ok-now.ensures.asked) at c.perform.ensures in
    record { outcome = replied-done _ _ _ _ c.in_ok-now.ensures.told _ p; limit = p.value_small }
