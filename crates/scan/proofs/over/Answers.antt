-- `scan::over` meets its contract, by the law of the highest bit. Assumes nothing.
use Rattle.std.proofs.Common.{arith}
use Rattle.scan.proofs.Charges.{over-top}
use Rattle.scan.proofs.over.Goals as goal

pub returns : goal.returns
returns c = over-top c.args.charge _ (omega arith) (omega arith) (omega arith)
