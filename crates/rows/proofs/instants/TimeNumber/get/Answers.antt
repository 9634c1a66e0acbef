-- An instant is read: its number of 16 bytes is the fraction's of 8 and the seconds' of 8.
-- Assumes nothing.
use native.Mathlib.Omega.{arith}
use Rattle.time.specs.Raw.{raw}
use Rattle.rows.proofs.Widths.{word_split}
use Rattle.rows.proofs.instants.TimeNumber.get.Goals as goal

pub returns : goal.returns
unfolding raw
returns c =
    let x = c.args in
    omega (arith, word_split 8 8 x.from.now x.at, c.get-fraction.ensures, c.get-seconds.ensures)
