-- `charging::page_bit` meets its contract.
-- Assumes nothing.
use Rattle.cell.specs.Cell.{page_bit}
use Rattle.charging.proofs.page_bit.Goals as goal

pub returns : goal.returns
unfolding page_bit
returns c = c.bit.ensures
