-- `summary::paging::put_blocks` meets its contract: each call puts the line of its block.
-- Assumes nothing.
use borrow.Author.Rules.{rules}
use Rattle.summary.specs.Summary.{pages_in}
use Rattle.summary.proofs.paging.put_blocks.Goals as goal

pub returns : goal.returns
returns c = c.put_lines.ensures (pages_in c.args.states.now) (λ k h t left put. search rules)
