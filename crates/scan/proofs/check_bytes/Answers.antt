-- `scan::check_bytes` meets its contract. The loop's invariant: what all bytes answer is what those from i on answer.
-- Assumes nothing.
use Rattle.std.proofs.Common.{◌≡◌, suc, ◌+◌, ◌<◌, length, sym, ◌∙◌, add-zero, add-one, arith, le-leb}
use borrow.Author.Tests.{lt-leb}
use Rattle.refusal.proofs.Outcomes.{passed-on}
use Rattle.scan.proofs.Turns.{limit-next, no-limits, end-passed, end-missing, refused}
use Rattle.scan.proofs.check_bytes.Goals as goal

pub loop-i-init : goal.loop-i-init
loop-i-init c = rw (add-zero c.args.at)

pub returns-in_err-check_end : goal.returns-in_err-check_end
returns-in_err-check_end c =
    let m = end-missing _ _ _ c.in_err-check_end.ensures (refused _) in
    rw (passed-on _ c.from_residual.ensures.1)
    (m.0 ∙ sym (c.loop-i.invariant ∙ limit-next _ _ _ _ c.loop-i-test.true ∙ rw (le-leb (length c.args.bytes.now) (c.args.at + c.loop-i.i) (omega (arith, m.1)))))

pub returns-then-most-bytes : goal.returns-then-most-bytes
returns-then-most-bytes c =
    let there : c.args.at + c.loop-i.i < length c.args.bytes.now = omega (arith, end-passed _ _ c.in_ok-check_end.ensures) in
    sym (c.loop-i.invariant ∙ limit-next _ _ _ _ c.loop-i-test.true ∙ rw (lt-leb _ _ there, lt-leb _ _ c.if-most-bytes.true))

pub loop-i-preserved : goal.loop-i-preserved
loop-i-preserved c =
    let there : c.args.at + c.loop-i.i < length c.args.bytes.now = omega (arith, end-passed _ _ c.in_ok-check_end.ensures) in
    let e : c.args.at + (c.loop-i.i + 1) ≡ suc (c.args.at + c.loop-i.i) = omega arith in
    c.loop-i.invariant ∙ limit-next _ _ _ _ c.loop-i-test.true ∙ rw (lt-leb _ _ there, le-leb _ _ c.if-most-bytes.false, e, add-one)

pub returns : goal.returns
returns c = sym (c.loop-i.invariant ∙ no-limits _ _ _ _ c.loop-i-test.false)
