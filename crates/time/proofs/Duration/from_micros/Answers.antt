-- `time::Duration::from_micros` meets its contract: whole seconds come out by division, and of the rest each microsecond is
-- 18446744073709 raw and a fraction, so that no product passes 64 bits. Assumes nothing.
use mathlib.Core.Path.{refl}
use Rattle.time.proofs.Laws.{is-micros}
use native.Mathlib.Omega.{arith}
use Rattle.time.proofs.Duration.from_micros.Goals as goal

pub returns : goal.returns
returns c = is-micros c.args.n _ refl refl (omega arith)
