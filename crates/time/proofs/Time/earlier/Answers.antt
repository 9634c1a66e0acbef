-- `time::Time::earlier` meets its contract: the derived order is that of the raw units. Assumes nothing.
use Rattle.std.proofs.Common.{rules}
use Rattle.time.proofs.Laws.{derived-ltb}
use native.Mathlib.Omega.{arith}
use Rattle.time.proofs.Time.earlier.Goals as goal

pub returns : goal.returns
returns c = let x = c.args in rw (← derived-ltb x.self x.other (omega arith) (omega arith)) (search rules)
