-- `replay::replay` meets its contract: there is nothing to do, or the first call is refused by what memory is, or the run is on memory
-- that is opened. Assumes nothing.
use mathlib.Core.Path.{sym, ◌∙◌}
use native.Mathlib.Omega.{arith}
use Rattle.refusal.proofs.Outcomes.{number-some}
use Rattle.lent.proofs.Holding.{opened-long, asked-first}
use Rattle.listing.proofs.Going.{refused-first}
use Rattle.replay.proofs.Answers.{end_is, nothing-done, run-done}
use Rattle.replay.proofs.replay.Goals as goal

pub returns-then-end-from-clause-done : goal.returns-then-end-from-clause-done
returns-then-end-from-clause-done c =
    rw (end_is _ _ ∙ sym c.min-end.ensures, c.default.ensures.0, c.default.ensures.1) (nothing-done _ _ _ _ _ (omega arith))

pub run-ran-requires : goal.run-ran-requires
run-ran-requires c =
    let o = rw c.seen.ensures at c.in-Ok.ensures.opened in
    (rw (sym o.chip_is) at o.ready, omega arith)

pub write-requires : goal.write-requires
write-requires c = opened-long _ _ (rw c.seen.ensures at c.in-Ok.ensures.opened)

pub returns-in-Ok-clause-done : goal.returns-in-Ok-clause-done
returns-in-Ok-clause-done c =
    let o = rw c.seen.ensures at c.in-Ok.ensures.opened in
    rw (end_is _ _ ∙ sym c.min-end.ensures) (run-done _ _ _ _ _ _ _ o _ c.run-ran.ensures c.write.ensures)

pub returns-in-Err-clause-done : goal.returns-in-Err-clause-done
returns-in-Err-clause-done c =
    let t = asked-first _ _ _ _ _ (rw c.seen.ensures at c.in-Err.ensures.told) in
    rw (end_is _ _ ∙ sym c.min-end.ensures) (refused-first _ _ _ _ _ (omega arith) _ (number-some _) t)
