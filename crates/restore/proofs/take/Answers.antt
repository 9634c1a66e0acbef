-- `restore::take` meets its contract: what was scanned is judged by the end of its state and by its validity, and what is stored is what
-- stands there. Assumes nothing.
use mathlib.Core.Path.{sym, ◌∙◌}
use Rattle.std.proofs.Common.{rules, length-take-le}
use native.Mathlib.Omega.{arith}
use Rattle.lent.specs.Views.{memory_at}
use Rattle.lent.proofs.Fitted.{sizes-fit}
use Rattle.snapshot.proofs.Places.{scan-room}
use Rattle.restore.proofs.Taken.{left_over, not_valid, taken}
use Rattle.restore.proofs.take.Goals as goal

pub returns-then-end-snapshot-clause-judged : goal.returns-then-end-snapshot-clause-judged
returns-then-end-snapshot-clause-judged c =
    let state = c.state-state.ensures in
    left_over _ _ _ _ _ _ state.same state.place c.end.ensures c.args.snapshot.now.indexed c.if-end-snapshot.true

pub returns-then-not-valid-clause-judged : goal.returns-then-not-valid-clause-judged
returns-then-not-valid-clause-judged c =
    let state = c.state-state.ensures in
    not_valid _ _ _ _ _ _ state.same state.place c.end.ensures c.args.snapshot.now.indexed c.if-end-snapshot.false _
    c.flash_at-flash.ensures _ c.valid.ensures c.if-not-valid.true

pub slice_bounds-copy-end : goal.slice_bounds-copy-end
slice_bounds-copy-end c = omega (arith, (scan-room _ c.args.snapshot.now.good).0)

pub copy-requires : goal.copy-requires
copy-requires c =
    length-take-le 49152 c.args.snapshot.now.bytes.now (omega (arith, (scan-room _ c.args.snapshot.now.good).0))
    ∙ sym (sizes-fit _ _ _ c.requires).array_long

pub returns : goal.returns
returns c =
    let state = c.state-state.ensures in
    let t =
    taken _ _ _ _ _ _ state.same state.place c.end.ensures c.args.snapshot.now.indexed c.if-end-snapshot.false _
    c.flash_at-flash.ensures _ c.valid.ensures c.if-not-valid.false (memory_at c.args.memory.now) _ _ _ c.write.ensures
    c.copy.ensures (rw c.count.ensures.count at c.load_pages.ensures) in
    record { same = search rules; judged = t.0; left = t.1 }
