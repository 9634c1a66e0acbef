-- A `u8` is one byte stored.
-- Assumes nothing.
use Rattle.rows.proofs.Runs.{put_one}
use native.Mathlib.Omega.{arith}
use Rattle.rows.proofs.numbers.U8Number.put.Goals as goal

pub returns : goal.returns
returns c = put_one c.args.to.now c.args.at c.args.self (omega arith) (omega arith)
