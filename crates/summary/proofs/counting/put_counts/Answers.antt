-- `summary::counting::put_counts` meets its contract: three texts, one after the other.
-- Assumes nothing.
use borrow.Author.Rules.{rules}
use Rattle.text.proofs.Joined.{says_append}
use Rattle.summary.specs.Summary.{counts_text}
use Rattle.summary.proofs.counting.put_counts.Goals as goal

pub returns : goal.returns
unfolding counts_text
returns c = search (rules, says_append)
