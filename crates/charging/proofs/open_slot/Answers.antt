-- `charging::open_slot` meets its contract: the slot's cells, lent to `open` and put back, are the rule on that slot.
-- Assumes nothing.
use native.Mathlib.Omega.{arith}
use Rattle.cell.specs.Cell.{opened_slot, opened_page}
use Rattle.cell.proofs.Slot.{slot-back}
use Rattle.charging.proofs.open_slot.Goals as goal

pub returns : goal.returns
unfolding opened_slot opened_page
returns c =
    let x = c.args in
    let chunk = rw c.unwrap.ensures at c.first_chunk_mut.ensures.cases in
    let parts = c.split_at_mut-rest.ensures in
    rw (c.«open».ensures, chunk.same, parts.front, parts.back) (slot-back x.slot _ x.charges.now (omega arith))
