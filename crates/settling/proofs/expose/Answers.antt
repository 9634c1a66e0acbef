-- `settling::expose` meets its contract. The loop's invariant: index, array, charges and events are those after the pages passed.
-- Assumes nothing.
use mathlib.Core.Path.{◌≡◌, ap, ◌∙◌}
use Prim.Native.Nat.{ℕ, ◌+◌, ◌-◌, ◌<◌}
use native.Mathlib.Omega.{arith}
use borrow.Author.Rules.{rules}
use mathlib.Core.Logic.{◌≢◌}
use Rattle.time.specs.Raw.{span}
use Rattle.settle.specs.Pages.{Cells, opened, on_page}
use Rattle.settle.specs.Settling.{charged}
use Rattle.settle.specs.declared.cells.CellsMut.{CellsMut}
use Rattle.settle.specs.declared.exposure.Exposure.{Exposure}
use Rattle.settle.specs.Views.{cells_at}
use Rattle.settle.proofs.Slots.{SlotsOf, slots-from, slots-sound, opened-le}
use Rattle.settle.proofs.Page.{slot_lt, page-slots}
use Rattle.settle.proofs.Stored.{stored-events, stored-le}
use Rattle.settle.proofs.Turns.{turn, turned_none, turned-all, turned-slots, turned-moves, turned-stays, turned_more, left-same}
use Rattle.settling.proofs.expose.Goals as goal
use Rattle.settling.proofs.expose.Goals.{then-slot-next, else-slot-next}

-- the slots after a page was charged
charged-slots : (m : CellsMut) (e : Exposure) (page : ℕ) → SlotsOf (on_page (charged e.pulse e.latch.now (span e.length)) page (cells_at m))
charged-slots m e page = page-slots (cells_at m) (slots-from m.index.now m.charges.now m.index_long m.charges_long m.sound) page _

pub returns-in_default-clause-left : goal.returns-in_default-clause-left
returns-in_default-clause-left c = rw c.in_default.is (left-same (cells_at c.args.cells.now) c.args.events.now)

pub opened-next-requires : goal.opened-next-requires
opened-next-requires c = search rules

pub loop-page-init : goal.loop-page-init
loop-page-init c =
    let x = c.args in
    let lasting = c.in-Some.exposure in
    let m = x.cells.now in
    let k = cells_at m in
    let slots = slots-from m.index.now m.charges.now m.index_long m.charges_long m.sound in
    let none : c.from-first.result - lasting.pulse.first ≡ 0 = omega arith in
    (search rules, rw none (turned_none lasting.pulse lasting.latch.now (span lasting.length) k x.events.now c.opened-next.result slots (c.opened-next.ensures.0 ∙ ap (λ (k : Cells). opened k.index) c.seen.ensures)))

pub charge_page-slot-requires : goal.charge_page-slot-requires
charge_page-slot-requires c =
    let room = rw c.in-Some.is at c.requires in
    let m = c.loop-page.cells in
    ((m.index_long, m.array_long, m.charges_long), m.sound, omega arith, c.loop-page.invariant.1.next_is)

pub invariant_of-cells-clause-index_long : goal.invariant_of-cells-clause-index_long
invariant_of-cells-clause-index_long c =
    rw c.charge_page-slot.ensures.index (charged-slots c.loop-page.cells c.in-Some.exposure c.loop-page.page).pages

pub invariant_of-cells-clause-charges_long : goal.invariant_of-cells-clause-charges_long
invariant_of-cells-clause-charges_long c =
    rw c.charge_page-slot.ensures.charges (charged-slots c.loop-page.cells c.in-Some.exposure c.loop-page.page).room

pub invariant_of-cells-clause-sound : goal.invariant_of-cells-clause-sound
invariant_of-cells-clause-sound c =
    rw c.charge_page-slot.ensures.index (slots-sound (charged-slots c.loop-page.cells c.in-Some.exposure c.loop-page.page))

pub overflow_add-next : goal.overflow_add-next
overflow_add-next c =
    let l = c.loop-page in
    let t = l.invariant.1 in
    omega (arith, t.next_is, opened-le l.cells.index.now, (turned-slots t).pages)

pub resense_page-count-requires : goal.resense_page-count-requires
resense_page-count-requires c =
    let room = rw c.in-Some.is at c.requires in
    let x = c.args in
    let lasting = c.in-Some.exposure in
    let l = c.loop-page in
    let t = l.invariant.1 in
    let k : Cells = cells_at l.cells in
    let z : SlotsOf k = turned-slots t in (
      omega (arith, c.charge_page-slot.ensures.slot, slot_lt k z l.page (omega arith)),
      omega arith,
      omega (arith, stored-le t.stored, stored-events t.stored, room.1),
    )

pub loop-page-preserved : goal.loop-page-preserved
loop-page-preserved c =
    let room = rw c.in-Some.is at c.requires in
    let x = c.args in
    let lasting = c.in-Some.exposure in
    let l = c.loop-page in
    let t = l.invariant.1 in
    let i = l.page - lasting.pulse.first in
    let here : lasting.pulse.first + i ≡ l.page = omega arith in
    let e = rw (← here) at c.charge_page-slot.ensures in
    let r = rw (← here, c.of-ceilings.ensures) at c.resense_page-count.ensures in
    let slot = c.charge_page-slot.result in
    let inside : i < lasting.pulse.pages = omega arith in
    let next : c.if-slot-next.next ≡ opened (turn lasting.pulse lasting.latch.now (span lasting.length) i l.cells.index.now l.cells.array.now l.cells.charges.now).index = elim c.if-slot-next.branch [
      | then-slot-next w ↦ w.next-is ∙ turned-moves t inside room.0 slot e.slot (omega arith)
      | else-slot-next w ↦ w.next-is ∙ turned-stays t inside room.0 slot e.slot (omega arith)
    ] in
    let array = rw (← r.charges) at r.array in
    let one : l.page + 1 - lasting.pulse.first ≡ i + 1 = omega arith in
    (search rules, rw one (turned_more t inside room.0 slot e.slot x.cells.now.array_long (r.index ∙ e.index) (r.charges ∙ e.charges) next array r.events r.count))

pub returns-clause-left : goal.returns-clause-left
returns-clause-left c =
    let x = c.args in
    let lasting = c.in-Some.exposure in
    let l = c.loop-page in
    let t = l.invariant.1 in
    let e : l.page - lasting.pulse.first ≡ lasting.pulse.pages = omega arith in
    let n : span lasting.length ≢ 0 = omega (arith, lasting.lasts) in
    rw c.in-Some.is (turned-all lasting.pulse lasting.latch.now (span lasting.length) (cells_at x.cells.now) x.events.now n (rw e at t))
