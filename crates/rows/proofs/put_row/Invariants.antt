-- `rows::put_row` meets its contract. The loop's invariant: the bytes of the numbers passed stand after what was there.
-- Assumes nothing.
use Rattle.rows.specs.Rows.{row_bytes}
use mathlib.Core.List.{◌++◌}
use lib.ListN.{length, take}
use Prim.Native.Nat.{◌+◌, ◌*◌}
use mathlib.Core.Path.{◌≡◌}
use Rattle.rows.proofs.put_row.Given as goal

abbrev pub invariant-loop-k : goal.invariant-loop-k
invariant-loop-k g l =
    let n = g.N.Number in
    (length l.to ≡ length l.initial.to)
    × (take (l.at + n.WIDTH * l.k) l.to ≡ take l.at l.initial.to ++ row_bytes n.WIDTH (take l.k (n.numbers l.row)))
