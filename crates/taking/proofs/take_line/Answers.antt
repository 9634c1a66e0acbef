-- `taking::take_line` meets its contract: the place after the line is as the definition has it, and so are the calls that wait.
-- Assumes nothing.
use mathlib.Core.Path.{◌≡◌}
use borrow.Author.Rules.{rules}
use native.Mathlib.Omega.{arith}
use lib.ListN.{length-take}
use Rattle.settle.specs.Tallies.{raised}
use Rattle.taking.proofs.Taken.{unread, fits, parsed}
use Rattle.taking.proofs.take_line.Goals as goal

pub returns-then-place-clause-taken : goal.returns-then-place-clause-taken
returns-then-place-clause-taken c =
    let counted : c.saturating_add-lines.result ≡ raised c.args.place.lines 1 = search rules in
    unread c.args.place _ _ _ c.requires c.if-place.true (rw counted at c.place_after.ensures)

pub slice_bounds-take-end : goal.slice_bounds-take-end
slice_bounds-take-end c = simp length-take (omega arith)

pub place_after-requires-2 : goal.place_after-requires-2
place_after-requires-2 c =
    let b = c.args.backlog.now in
    fits c.args.place b.line b.calls b.numbers c.requires c.take-taken.ensures

pub returns-clause-taken : goal.returns-clause-taken
returns-clause-taken c =
    let b = c.args.backlog.now in
    let counted : c.saturating_add-lines.result ≡ raised c.args.place.lines 1 = search rules in
    rw counted
    (parsed c.args.place b.line b.calls b.numbers c.requires
    c.if-place.false (omega arith) (omega arith) c.take-taken.ensures (rw counted at c.place_after-2.ensures))
