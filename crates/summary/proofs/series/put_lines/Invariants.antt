-- `summary::series::put_lines` meets its contract. The loop's invariant: the lines of the things passed are put.
-- Assumes nothing.
use Rattle.std.proofs.Common.{ℕ, List}
use Rattle.text.specs.Says.{Says}
use Rattle.summary.specs.Summary.{lines, PutsEach}
use Rattle.summary.proofs.series.put_lines.Given as goal

abbrev pub invariant-loop-i : goal.invariant-loop-i
invariant-loop-i g l =
    (line : ℕ → List ℕ) → PutsEach (λ old k new. goal.F-post g l.put old k tt new) line l.n → Says (lines line 0 l.i) l.initial.text l.text
