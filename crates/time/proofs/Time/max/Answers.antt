-- `time::Time::max` meets its contract: the derived order is that of the raw units, and instants of as many units are one.
-- Assumes nothing.
use Rattle.std.proofs.Common.{rules}
use Rattle.time.proofs.Laws.{derived-later}
use native.Mathlib.Omega.{arith}
use Rattle.time.proofs.Time.max.Goals as goal

pub returns : goal.returns
returns c = let x = c.args in rw (← derived-later x.self x.other (omega arith) (omega arith)) (search rules)
