-- `rows::put_row` meets its contract: a turn writes one number's bytes after those that stand already.
-- Assumes nothing.
use mathlib.Core.Path.{◌≡◌, refl}
use Prim.Native.Nat.{◌+◌, ◌*◌}
use lib.ListN.{length, get_or}
use Rattle.rows.proofs.Runs.{start, more}
use native.Mathlib.Omega.{arith}
use Rattle.rows.proofs.Values.{length-numbers, get_or-numbers}
use Rattle.rows.proofs.put_row.Goals as goal

pub loop-k-init : goal.loop-k-init
loop-k-init g c =
    let n = g.N.Number in
    let x = c.args in (refl, start n.WIDTH x.at x.to.now (n.numbers x.row.now) (x.at + n.WIDTH * 0) (omega arith))

pub loop-k-preserved : goal.loop-k-preserved
loop-k-preserved g c =
    let n = g.N.Number in
    let each = g.met.N.Number.each in
    let x = c.args in
    let l = c.loop-k in
    let v = c.index-row-k.result in
    let long : length (n.numbers x.row.now) ≡ length x.row.now = length-numbers n.number n.numbers each x.row.now in
    let here : get_or (n.numbers x.row.now) l.k 0 ≡ n.number v = get_or-numbers n.number n.numbers each x.row.now l.k v c.loop-k-test.true c.index-row-k.is in
    let put = rw (c.WIDTH.ensures, ← here) at c.put.ensures in (
      omega arith,
      more n.WIDTH x.at x.to.now (n.numbers x.row.now) l.to c.put.new.to l.k (x.at + n.WIDTH * (l.k + 1)) (x.at + n.WIDTH * l.k) (omega arith) (omega arith) put l.invariant.1,
    )
