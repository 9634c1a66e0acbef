-- A `u32` is what its four bytes are worth.
-- Assumes nothing.
use native.Mathlib.Omega.{arith}
use Rattle.rows.proofs.Bytes.{first-worth}
use Rattle.rows.proofs.numbers.U32Number.get.Goals as goal

pub returns : goal.returns
returns c =
    let x = c.args in
    let chunk = rw c.unwrap.ensures at c.first_chunk.ensures.cases in
    rw c.from_le_bytes.ensures (first-worth x.from.now c.unwrap.result.now x.at 3 chunk.same (omega arith))
