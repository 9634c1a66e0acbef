-- `ask::ask` meets its contract: a refusal by memory or by the call is the outcome's, and so is what is written of a call that was made.
-- Assumes nothing.
use Rattle.refusal.proofs.Outcomes.{passed-on}
use Rattle.lent.proofs.Tells.{limit-above}
use Rattle.lent.proofs.Holding.{opened-fit, opened-long, asked-first, asked-refused, asked-done}
use mathlib.Core.Path.{refl}
use Rattle.std.specs.Prelude.{Ok}
use Rattle.ask.proofs.ask.Goals as goal

pub returns-in_err-flash : goal.returns-in_err-flash
returns-in_err-flash c =
    let t = asked-first _ _ _ _ _ (rw c.seen.ensures at c.in_err-flash.ensures.told) in
    rw (passed-on _ c.from_residual.ensures.1) (record { same = record { same_record = refl; same_array = refl; same_charges = refl }; outcome = t; limit = limit-above _ })

pub attempt-requires : goal.attempt-requires
attempt-requires c = opened-fit _ _ (rw c.seen.ensures at c.in_ok-flash.ensures.opened)

pub returns-in_err-done : goal.returns-in_err-done
returns-in_err-done c =
    let o = rw c.seen.ensures at c.in_ok-flash.ensures.opened in
    let t = asked-refused _ _ _ _ _ o _ c.in_err-done.ensures.outcome in
    rw (passed-on _ c.from_residual-in_err-done.ensures.1) (record { same = record { same_record = refl; same_array = refl; same_charges = refl }; outcome = t; limit = limit-above _ })

pub write-requires : goal.write-requires
write-requires c = opened-long _ _ (rw c.seen.ensures at c.in_ok-flash.ensures.opened)

pub returns : goal.returns
returns c =
    let o = rw c.seen.ensures at c.in_ok-flash.ensures.opened in
    let t = asked-done _ _ _ _ _ o (Ok c.in_ok-done.done.answer) c.in_ok-done.ensures.outcome c.write.ensures in
    record { same = record { same_record = refl; same_array = refl; same_charges = refl }; outcome = t; limit = c.in_ok-done.ensures.limit }
