-- `save::fill` meets its contract: the array, the count, the charge pages and the state, each written after what stands already.
-- Assumes nothing.
use lib.ListN.{length}
use Prim.Native.Nat.{◌+◌, ◌*◌, ◌≤◌}
use Rattle.layout.specs.Layout.{option_byte}
use Rattle.flash.specs.Chip.{Chip}
use Rattle.flash.specs.Views.{chip_of}
use Rattle.save.proofs.Filled.{filled}
use Rattle.snapshot.specs.Places.{page_at}
use Rattle.settle.proofs.Slots.{opened-le}
use native.Mathlib.Omega.{arith}
use Rattle.save.proofs.fill.Goals as goal

pub overflow_cast-number : goal.overflow_cast-number
overflow_cast-number c = omega (arith, opened-le c.args.held.now.flash.indices)

pub put_pages-requires : goal.put_pages-requires
unfolding page_at
put_pages-requires c = (c.requires.0, omega arith)

pub page_at-requires : goal.page_at-requires
page_at-requires c = omega (arith, opened-le c.args.held.now.flash.indices)

pub put_state-requires : goal.put_state-requires
unfolding page_at
put_state-requires c = omega arith

pub returns : goal.returns
unfolding page_at
returns c = let x = c.args in
    let k : Chip = chip_of x.held.now in
    let p = c.page_at.result in
    let m = p + 256 + 18 * option_byte x.held.now.flash.registers.verify_pending in
    let l = c.put_state.new.out in
    let whole : length l ≤ m = omega (arith, c.requires.1, c.page_at.ensures) in
    filled k (0 + 1 * length x.held.now.array.now) 49152 x.count (page_at x.count) p m x.out.now c.put_row.new.to c.put.new.to c.put_pages.new.out l c.put_row.ensures (omega arith) c.put.ensures c.requires.0 c.put_pages.ensures c.page_at.ensures c.put_state.ensures whole
