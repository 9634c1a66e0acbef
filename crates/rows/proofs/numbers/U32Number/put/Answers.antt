-- A `u32` is written as its four bytes.
-- Assumes nothing.
use native.Mathlib.Omega.{arith}
use Rattle.rows.proofs.Bytes.{put-low}
use Rattle.rows.proofs.numbers.U32Number.put.Goals as goal

pub returns : goal.returns
returns c =
    let x = c.args in
    rw c.copy_from_slice.ensures.after (put-low x.to.now c.to_le_bytes.result x.at 4 x.self (omega arith) c.to_le_bytes.ensures)
