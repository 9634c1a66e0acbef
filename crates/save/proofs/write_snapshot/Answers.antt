-- `save::write_snapshot` meets its contract: a refusal at each check is the one asked for, and past the checks the snapshot fills
-- the beginning of the output. Assumes nothing.
use lib.ListN.{length}
use Rattle.refusal.proofs.Outcomes.{number-some, passed-on}
use Rattle.lent.specs.Views.{memory_in}
use Rattle.lists.proofs.Stores.{put_front}
use Rattle.save.proofs.Told.{length-written, told-first, told-8, told-none}
use native.Mathlib.Omega.{arith}
use Rattle.save.proofs.write_snapshot.Goals as goal

pub returns-in_err-held-clause-answer : goal.returns-in_err-held-clause-answer
returns-in_err-held-clause-answer c =
    rw (passed-on _ c.from_residual.ensures.1) (told-first _ _ c.in_err-held.ensures.told (λ z. omega (arith, number-some c.in_err-held.field-0.0)))

pub returns-then-out-length-clause-answer : goal.returns-then-out-length-clause-answer
returns-then-out-length-clause-answer c =
    let x = c.args in
    let m = memory_in x.lent in
    let o = c.in_ok-held.ensures in
    let n = c.snapshot_length-length.result in
    let e = length-written m c.in_ok-held.held c.opened-count.result n o.opened c.opened-count.ensures.0 c.snapshot_length-length.ensures in
    told-8 m (length x.out.now) o.told.0 n e c.if-out-length.true

pub returns : goal.returns
returns c =
    let x = c.args in
    let m = memory_in x.lent in
    let o = c.in_ok-held.ensures in
    let n = c.snapshot_length-length.result in
    let e = length-written m c.in_ok-held.held c.opened-count.result n o.opened c.opened-count.ensures.0 c.snapshot_length-length.ensures in
    let z = told-none m (length x.out.now) o.told.0 n e c.if-out-length.false in
    record { answer = (z, e); out = put_front c.fill.new.out x.out.now _ n (rw o.told.1 at c.fill.ensures) e (omega arith) }
