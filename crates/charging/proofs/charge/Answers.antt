-- `charging::charge` meets its contract. The invariant of both loops: the cells passed are moved by the clipped amount, and the others are
-- as they were; at the end the clipped amount is replaced by the exposure's, cell by cell.
-- Assumes nothing.
use Prim.Native.Nat.{ℕ, ◌+◌, ◌<◌, ◌-◌, ◌*◌, ◌^◌, min}
use mathlib.Core.List.{List}
use mathlib.Core.Path.{◌≡◌, sym, ◌∙◌}
use native.Mathlib.Nat.{add-zero}
use native.Mathlib.Omega.{arith}
use Rattle.time.specs.Raw.{span}
use Rattle.lists.specs.Lists.{at, mapi}
use Rattle.cell.specs.Cell.{rate, page_bit, charged_page}
use Rattle.cell.specs.declared.Direction.{Direction}
use Rattle.lists.proofs.Maps.{mapi-same}
use Rattle.lists.proofs.Partly.{partly-turn, partly-all}
use Rattle.charging.proofs.Bytes.{cell-bit}
use Rattle.cell.proofs.Rule.{clipped-exposes}
use Rattle.charging.proofs.charge.Invariants.{ruled}
use Rattle.charging.proofs.charge.Goals as goal

clipped-page :
    (d : Direction) (latch : List ℕ) (l a : ℕ) (qs : List ℕ) → a ≡ min (rate d * l) (2 ^ 64 - 1) → ((k : ℕ) → at qs k < 2 ^ 64)
    → mapi (ruled d latch a) 0 qs ≡ charged_page d latch l qs
unfolding charged_page
clipped-page d latch l a qs e h = mapi-same _ _ qs (λ k g. clipped-exposes d (page_bit latch k) l a (at qs k) e (h k))

pub loop-k-init : goal.loop-k-init
loop-k-init c = λ xs e. rw add-zero e

pub loop-k-preserved : goal.loop-k-preserved
loop-k-preserved c =
    let l = c.loop-k in
    let i = c.loop-i.i in
    let n : 8 * i + (l.k + 1) ≡ 8 * i + l.k + 1 = omega arith in
    λ xs e.
    rw n (partly-turn (ruled c.args.direction c.args.latch.now c.amount-by.result) (8 * i + l.k) xs l.cells _ (l.invariant xs e)
    (c.moved.ensures ∙ rw (c.bit.ensures, cell-bit _ i l.k (omega arith))))

pub loop-i-preserved : goal.loop-i-preserved
loop-i-preserved c =
    let e : 8 * (c.loop-i.i + 1) ≡ 8 * c.loop-i.i + c.loop-k.k = omega arith in
    rw e (c.loop-k.invariant _ c.loop-i.invariant)

pub returns : goal.returns
returns c =
    let x = c.args in
    let l = c.loop-i in
    let e : 8 * l.i ≡ 1024 = omega arith in
    l.invariant
    ∙ partly-all _ _ _ (e ∙ sym c.told-cells)
    ∙ clipped-page x.direction x.latch.now (span x.lasting) _ x.cells.now c.amount-by.ensures
    (λ k. search arith)
