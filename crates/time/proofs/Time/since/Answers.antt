-- `time::Time::since` meets its contract: added to the earlier instant the result gives the later one, with a carry of 1 where
-- the fraction was borrowed from. Assumes nothing.
use Rattle.std.proofs.Common.{◌≡◌, ap}
use Rattle.std.specs.Int.{from_bool}
use Rattle.time.proofs.Laws.{is-since, not-since}
use native.Mathlib.Omega.{arith}
use Rattle.time.proofs.Time.since.Goals as goal

pub returns-then-below : goal.returns-then-below
returns-then-below c =
    let x = c.args in
    let borrow = from_bool c.borrowing_sub-low.result.1 in
    let below : from_bool c.borrowing_sub-high.result.1 ≡ 1 = ap from_bool c.if-below.true in
    not-since x.self x.from c.borrowing_sub-low.result.0 borrow (omega arith) (omega arith) (omega arith)

pub returns-else-below : goal.returns-else-below
returns-else-below c =
    let x = c.args in
    let borrow = from_bool c.borrowing_sub-low.result.1 in
    let below : from_bool c.borrowing_sub-high.result.1 ≡ 0 = ap from_bool c.if-below.false in
    is-since x.self x.from _ borrow (omega arith) (omega arith) (omega arith)
