-- `charging::open` meets its contract. The invariant of both loops: the cells passed have their first charges, and the others are as
-- they were.
-- Assumes nothing.
use Prim.Native.Nat.{◌+◌, ◌*◌}
use mathlib.Core.Path.{◌≡◌, sym, ◌∙◌}
use native.Mathlib.Nat.{add-zero}
use native.Mathlib.Omega.{arith}
use Rattle.cell.specs.Cell.{opened_page}
use Rattle.lists.proofs.Partly.{partly-turn, partly-all}
use Rattle.charging.proofs.Bytes.{cell-bit}
use Rattle.charging.proofs.open.Invariants.{first}
use Rattle.charging.proofs.open.Goals as goal

pub loop-k-init : goal.loop-k-init
loop-k-init c = λ xs e. rw add-zero e

pub loop-k-preserved : goal.loop-k-preserved
loop-k-preserved c =
    let l = c.loop-k in
    let i = c.loop-i.i in
    let n : 8 * i + (l.k + 1) ≡ 8 * i + l.k + 1 = omega arith in
    λ xs e.
    rw n (partly-turn (first c.args.bytes.now) (8 * i + l.k) xs l.cells _ (l.invariant xs e)
    (c.first_charge.ensures ∙ rw (c.bit.ensures, cell-bit _ i l.k (omega arith))))

pub loop-i-preserved : goal.loop-i-preserved
loop-i-preserved c =
    let e : 8 * (c.loop-i.i + 1) ≡ 8 * c.loop-i.i + c.loop-k.k = omega arith in
    rw e (c.loop-k.invariant _ c.loop-i.invariant)

pub returns : goal.returns
unfolding opened_page
returns c =
    let l = c.loop-i in
    let e : 8 * l.i ≡ 1024 = omega arith in
    l.invariant ∙ partly-all _ _ _ (e ∙ sym c.told-cells)
