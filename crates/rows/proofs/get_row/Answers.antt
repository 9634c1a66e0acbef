-- `rows::get_row` meets its contract: a turn writes the number at its place, and after the last turn all are there.
-- Assumes nothing.
use mathlib.Core.Path.{◌≡◌, ap, ◌∙◌}
use Prim.Native.Nat.{ℕ}
use lib.ListN.{length}
use native.Mathlib.Omega.{arith}
use Rattle.rows.proofs.Runs.{filled-turn, filled-all}
use Rattle.rows.specs.Rows.{row}
use Rattle.rows.proofs.Values.{length-numbers, numbers-set}
use Rattle.rows.proofs.get_row.Goals as goal

pub loop-k-preserved : goal.loop-k-preserved
loop-k-preserved g c =
    let n = g.N.Number in
    let each = g.met.N.Number.each in
    let x = c.args in
    let l = c.loop-k in
    numbers-set n.number n.numbers each l.out l.k c.get.result
    ∙ filled-turn n.WIDTH x.at x.from.now l.k (n.numbers x.out.now) (n.numbers l.out) _ l.invariant (rw c.WIDTH.ensures at c.get.ensures)

pub returns : goal.returns
returns g c =
    let n = g.N.Number in
    let each = g.met.N.Number.each in
    let x = c.args in
    let l = c.loop-k in
    let e : length (n.numbers x.out.now) ≡ length x.out.now = length-numbers n.number n.numbers each x.out.now in
    l.invariant ∙ filled-all n.WIDTH x.at x.from.now (n.numbers x.out.now) l.k (omega arith) ∙ ap (λ (k : ℕ). row k n.WIDTH x.at x.from.now) e
