-- `settle::pages::charge_page` meets its contract: a page without a slot takes the next one, where its first charges are charged; a
-- page with one is charged there and keeps its entry. Assumes nothing.
use mathlib.Core.Path.{ap, sym, ◌∙◌}
use Prim.Native.Nat.{ℕ, ◌<◌}
use mathlib.Core.List.{List, []}
use lib.ListN.{get_or}
use Rattle.time.specs.Raw.{span}
use Rattle.lists.specs.Lists.{at}
use Rattle.lists.proofs.Chunks.{chunk-at}
use Rattle.settle.specs.Pages.{Cells}
use Rattle.settle.specs.Settling.{charged}
use Rattle.settle.specs.Views.{cells_of}
use Rattle.settle.proofs.Slots.{opened-lt, entry-le}
use Rattle.settle.proofs.Page.{slot_next, slot-own}
use Rattle.settle.proofs.Loop.{page-charged, page-opened, page-kept, page-next}
use native.Mathlib.Omega.{arith}
use borrow.Author.Rules.{rules}
use Rattle.settle.proofs.pages.charge_page.Goals as goal

pub open_slot-requires : goal.open_slot-requires
open_slot-requires c = (c.requires.0.2, omega (arith, opened-lt c.args.index.now c.args.page (omega arith) c.in_default.ensures))

pub entry_of-requires : goal.entry_of-requires
entry_of-requires c = omega (arith, opened-lt c.args.index.now c.args.page (omega arith) c.in_default.ensures)

pub charge_slot-requires : goal.charge_slot-requires
charge_slot-requires c = (search rules, omega (arith, opened-lt c.args.index.now c.args.page (omega arith) c.in_default.ensures))

pub returns-in_default-clause-index : goal.returns-in_default-clause-index
returns-in_default-clause-index c =
    let x = c.args in
    let k : Cells = cells_of x.index.now x.array.now x.charges.now in
    rw (c.entry_of.ensures, c.requires.3) (sym (page-next (charged x.pulse x.latch.now (span x.lasting)) k x.page c.in_default.ensures))

pub returns-in_default-clause-charges : goal.returns-in_default-clause-charges
returns-in_default-clause-charges c =
    let x = c.args in
    let k : Cells = cells_of x.index.now x.array.now x.charges.now in
    let own = λ (i : ℕ) (h : i < 128). ap (λ (xs : List (List ℕ)). at (get_or xs x.page []) i) c.as_chunks.ensures.front ∙ chunk-at 128 _ x.page x.array.now (omega arith) i h in
    rw (c.charge_slot.ensures, c.open_slot.ensures, c.requires.3) (sym (page-opened x.pulse x.latch.now (span x.lasting) k x.page _ c.in_default.ensures own))

pub returns-in_default-clause-slot : goal.returns-in_default-clause-slot
returns-in_default-clause-slot c = c.requires.3 ∙ sym (slot_next c.args.index.now c.args.page c.in_default.ensures)

pub charge_slot-requires-2 : goal.charge_slot-requires-2
charge_slot-requires-2 c =
    (c.requires.0.2, omega (arith, c.in-Some.ensures, entry-le _ c.requires.0.0 c.requires.1 c.args.page))

pub returns-clause-index : goal.returns-clause-index
returns-clause-index c =
    let x = c.args in
    let k : Cells = cells_of x.index.now x.array.now x.charges.now in
    sym (page-kept (charged x.pulse x.latch.now (span x.lasting)) k x.page c.in-Some.slot c.in-Some.ensures)

pub returns-clause-charges : goal.returns-clause-charges
returns-clause-charges c =
    let x = c.args in
    let k : Cells = cells_of x.index.now x.array.now x.charges.now in
    rw c.charge_slot-2.ensures (sym (page-charged x.pulse x.latch.now (span x.lasting) k x.page c.in-Some.slot c.in-Some.ensures))

pub returns-clause-slot : goal.returns-clause-slot
returns-clause-slot c = sym (slot-own c.args.index.now c.args.page c.in-Some.slot c.in-Some.ensures)
