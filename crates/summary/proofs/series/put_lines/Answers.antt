-- `summary::series::put_lines` meets its contract. The loop's invariant: the lines of the things passed are put.
-- Assumes nothing.
use mathlib.Core.Path.{◌≡◌}
use native.Mathlib.Omega.{arith}
use Rattle.summary.proofs.Lines.{no-lines, one-line-more}
use Rattle.summary.proofs.series.put_lines.Goals as goal

pub loop-i-init : goal.loop-i-init
loop-i-init g c line each = no-lines line _

pub loop-i-preserved : goal.loop-i-preserved
loop-i-preserved g c line each =
    one-line-more line _ _ _ _ (c.loop-i.invariant line each) (each c.loop-i.i c.loop-i-test.true _ _ c.put.ensures)

pub returns : goal.returns
returns g c line each = let e : c.args.n ≡ c.loop-i.i = omega arith in rw e (c.loop-i.invariant line each)
