-- `summary::summary` meets its contract: four texts, one after the other.
-- Assumes nothing.
use borrow.Author.Rules.{rules}
use Rattle.text.proofs.Joined.{says_append}
use Rattle.summary.specs.Summary.{summary_text}
use Rattle.summary.proofs.summary.Goals as goal

pub returns : goal.returns
unfolding summary_text
returns c = search (rules, says_append)
