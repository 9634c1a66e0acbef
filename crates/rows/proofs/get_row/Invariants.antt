-- `rows::get_row` meets its contract. The loop's invariant: the places passed have the row's numbers.
-- Assumes nothing.
use mathlib.Core.Path.{◌≡◌}
use Rattle.rows.proofs.Runs.{filled}
use Rattle.rows.proofs.get_row.Given as goal

abbrev pub invariant-loop-k : goal.invariant-loop-k
invariant-loop-k g l = let n = g.N.Number in n.numbers l.out ≡ filled n.WIDTH l.at l.from l.k (n.numbers l.initial.out)
