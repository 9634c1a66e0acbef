-- `summary::paging::put_states` meets its contract: each call puts the line of its page.
-- Assumes nothing.
use borrow.Author.Rules.{rules}
use Rattle.summary.specs.Summary.{page_told}
use Rattle.summary.proofs.paging.put_states.Goals as goal

pub returns : goal.returns
returns c = c.put_lines.ensures (page_told c.args.states.now) (λ k h t left put. search rules)
