-- `settling::store_page` meets its contract. The loop's invariant: the bytes passed are stored, with an event for each change.
-- Assumes nothing.
use mathlib.Core.Path.{◌≡◌, ap, ◌∙◌}
use Prim.Native.Nat.{ℕ, suc, ◌+◌, ◌-◌, ◌<◌}
use native.Mathlib.Nat.{add-zero}
use native.Mathlib.Omega.{arith}
use lib.ListN.{length}
use Rattle.lists.specs.Lists.{at}
use Rattle.settle.proofs.Stored.{Stored, stored-none, stored-length, stored-events, stored-le, stored_same, stored-changed}
use Rattle.settling.proofs.store_page.Goals as goal
use Rattle.settling.proofs.store_page.Goals.{then-old-value, else-old-value}

pub loop-i-init : goal.loop-i-init
loop-i-init c =
    let x = c.args in
    (omega arith, rw (add-zero x.address) (stored-none x.array.now x.events.now x.count x.address _))

pub loop-i-preserved : goal.loop-i-preserved
loop-i-preserved c =
    let l = c.loop-i in
    let x = c.args in
    let hi = x.address + l.i in
    let in_array : hi < length x.array.now = omega arith in
    let value : at x.bytes.now l.i ≡ at x.bytes.now (hi - x.address) = ap (at x.bytes.now) (omega arith) in
    let next : x.address + (l.i + 1) ≡ suc hi = omega arith in
    let v : ℕ → ℕ = λ a. at x.bytes.now (a - x.address) in
    let t : Stored x.array.now x.events.now x.count x.address v (suc hi) c.if-old-value.array c.if-old-value.events c.if-old-value.n =
    elim c.if-old-value.branch [
      | then-old-value w ↦ rw (w.array-is, w.events-is, w.n-is) (stored-changed l.invariant.1 (omega arith) in_array _ _ value (omega arith) w.byte_word.ensures)
      | else-old-value w ↦ rw (w.array-is, w.events-is, w.n-is) (stored_same l.invariant.1 (omega arith) in_array _ value (omega arith))
    ] in
    (omega (arith, stored-le t), rw next t)

pub shape_of-array : goal.shape_of-array
shape_of-array c = stored-length c.loop-i.invariant.1

pub shape_of-events : goal.shape_of-events
shape_of-events c = stored-events c.loop-i.invariant.1

pub returns-clause-array : goal.returns-clause-array
returns-clause-array c =
    let l = c.loop-i in
    let e : l.i ≡ 128 = omega arith in
    l.invariant.1.array_is ∙ rw e

pub returns-clause-events : goal.returns-clause-events
returns-clause-events c = c.loop-i.invariant.1.events_are

pub returns-clause-count : goal.returns-clause-count
returns-clause-count c = c.loop-i.invariant.1.count_is
