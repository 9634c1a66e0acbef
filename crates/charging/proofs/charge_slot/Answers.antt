-- `charging::charge_slot` meets its contract: the slot's cells, lent to `charge` and put back, are the rule on that slot.
-- Assumes nothing.
use native.Mathlib.Omega.{arith}
use Rattle.cell.specs.Cell.{charged_slot, charged_page}
use Rattle.cell.proofs.Slot.{slot-back}
use Rattle.charging.proofs.charge_slot.Goals as goal

pub returns : goal.returns
unfolding charged_slot charged_page
returns c =
    let x = c.args in
    let chunk = rw c.unwrap.ensures at c.first_chunk_mut.ensures.cases in
    let parts = c.split_at_mut-cells.ensures in
    rw (c.charge.ensures, chunk.same, parts.front, parts.back) (slot-back x.slot _ x.charges.now (omega arith))
