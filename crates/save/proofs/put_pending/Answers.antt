-- `save::put_pending` meets its contract: an option byte, and with a sense its address and its instant after it.
-- Assumes nothing.
use mathlib.Core.Path.{◌∙◌}
use mathlib.Core.List.{append_assoc}
use Prim.Native.Nat.{◌+◌}
use lib.ListN.{set, length-set}
use Rattle.time.specs.Raw.{raw}
use Rattle.rows.specs.Rows.{bytes}
use Rattle.rows.proofs.Runs.{put_one}
use Rattle.save.proofs.Runs.{after, nothing-row, sense-row}
use native.Mathlib.Omega.{arith}
use Rattle.save.proofs.put_pending.Goals as goal

pub put-requires : goal.put-requires
put-requires c =
    let h = rw c.in-Some.is at c.requires in
    simp length-set (omega arith)

pub put-requires-in-Some : goal.put-requires-in-Some
put-requires-in-Some c =
    let h = rw c.in-Some.is at c.requires in
    omega (arith, length-set c.args.out.now c.args.at 1)

pub returns-in-None : goal.returns-in-None
returns-in-None c =
    let x = c.args in
    rw (c.in-None.is, nothing-row) (omega arith, put_one x.out.now x.at 0 (omega arith) (omega arith))

pub shape_of-out-in-Some : goal.shape_of-out-in-Some
shape_of-out-in-Some c =
    let x = c.args in
    omega (arith, length-set x.out.now x.at 1)

pub returns-in-Some : goal.returns-in-Some
returns-in-Some c =
    let x = c.args in
    let k = x.at in
    let s = x.out.now in
    let a = c.in-Some.due.address in
    let t = c.in-Some.due.at in
    let m = c.put.new.to in
    let n = c.put-in-Some.new.to in
    let p = put_one s k 1 (omega arith) (omega arith) in
    let q = after (k + 1) (k + 1 + 2) (k + 3) (set s k 1) m _ (bytes 2 a) c.put.ensures p (omega arith) in
    let r = after (k + 3) (k + 3 + 16) (k + 19) m n _ (bytes 16 (raw t)) c.put-in-Some.ensures q (omega arith) in
    rw (c.in-Some.is, sense-row a t) (omega arith, r ∙ simp append_assoc)
