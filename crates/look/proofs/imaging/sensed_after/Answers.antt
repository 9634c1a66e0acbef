-- `look::imaging::sensed_after` meets its contract: each cell of the byte is charged.
-- Assumes nothing.
use mathlib.Core.Path.{◌∙◌}
use native.Mathlib.Omega.{arith}
use Rattle.look.proofs.After.{byte-here}
use Rattle.look.proofs.imaging.sensed_after.Goals as goal

pub returns : goal.returns
returns c =
    let x = c.args in
    c.sense_byte.ensures
    ∙ rw c.requires.0 (byte-here x.exposure.now x.cells.now x.address c.from_fn-charges.result c.requires.1 c.requires.2 (search arith))
