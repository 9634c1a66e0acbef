-- `settling::settle` meets its contract: a settle is the exposure of the pulse that is open. Assumes nothing.
use Rattle.settle.specs.Views.{cells_at}
use Rattle.settling.proofs.settle.Goals as goal

pub returns-clause-left : goal.returns-clause-left
returns-clause-left c = rw (c.at.ensures.settles (cells_at c.args.cells.now)) c.expose.ensures.left
