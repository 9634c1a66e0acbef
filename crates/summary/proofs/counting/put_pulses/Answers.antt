-- `summary::counting::put_pulses` meets its contract: each call puts the line of its block.
-- Assumes nothing.
use borrow.Author.Rules.{rules}
use Rattle.summary.specs.Summary.{pulses_in}
use Rattle.summary.proofs.counting.put_pulses.Goals as goal

pub returns : goal.returns
returns c = c.put_lines.ensures (pulses_in c.args.tally) (λ k h t left put. search rules)
