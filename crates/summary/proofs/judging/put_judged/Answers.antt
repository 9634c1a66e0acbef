-- `summary::judging::put_judged` meets its contract: two texts, one after the other.
-- Assumes nothing.
use borrow.Author.Rules.{rules}
use Rattle.text.proofs.Joined.{says_append}
use Rattle.summary.specs.Summary.{judged_text}
use Rattle.summary.proofs.judging.put_judged.Goals as goal

pub returns : goal.returns
unfolding judged_text
returns c = rw (← c.legible_among-legible.ensures) (search (rules, says_append))
