-- A `u8` is read as it stands.
-- Assumes nothing.
use mathlib.Core.Path.{sym}
use Rattle.rows.proofs.Widths.{word-one}
use Rattle.rows.proofs.numbers.U8Number.get.Goals as goal

pub returns : goal.returns
returns c = sym (word-one c.args.from.now c.args.at)
