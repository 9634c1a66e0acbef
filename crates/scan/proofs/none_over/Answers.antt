-- `scan::none_over` meets its contract. The loop's invariant: what all the charges answer is what those passed answer, by the highest bit of
-- their numbers together, or else what the rest answers. Assumes nothing.
use Rattle.std.proofs.Common.{◌<◌, add-zero, mul-zero, ◌∙◌, arith}
use native.Mathlib.Nat.{sub-zero}
use Rattle.scan.proofs.Charges.{looked-through, looked-more, as-many, charge-there}
use Rattle.scan.proofs.none_over.Goals as goal

pub loop-charge-init : goal.loop-charge-init
loop-charge-init c = record { most = omega arith; rest = rw (sub-zero, mul-zero, add-zero) }

pub loop-charge-preserved : goal.loop-charge-preserved
loop-charge-preserved c =
    let x = c.args in
    let l = c.loop-charge in
    let many = as-many x.bytes.now x.at x.count c.as_chunks.result.0.now c.requires c.as_chunks.ensures.front_len in
    let i : l.charge-index < x.count = omega arith in
    let charge = charge-there x.bytes.now x.at x.count c.as_chunks.result.0.now c.requires c.as_chunks.ensures.front l.charge-index i in
    looked-more l.invariant c.over-all.result i c.requires (rw (c.from_le_bytes.ensures ∙ charge) at c.over-all.ensures)

pub returns : goal.returns
returns c =
    let x = c.args in
    let many = as-many x.bytes.now x.at x.count c.as_chunks.result.0.now c.requires c.as_chunks.ensures.front_len in
    looked-through c.loop-charge.invariant (omega arith)
