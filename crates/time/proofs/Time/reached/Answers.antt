-- `time::Time::reached` meets its contract: the derived order is that of the raw units. Assumes nothing.
use Rattle.std.proofs.Common.{rules}
use Rattle.time.proofs.Laws.{derived-leb}
use native.Mathlib.Omega.{arith}
use Rattle.time.proofs.Time.reached.Goals as goal

pub returns : goal.returns
returns c = let x = c.args in rw (← derived-leb x.self x.at (omega arith) (omega arith)) (search rules)
