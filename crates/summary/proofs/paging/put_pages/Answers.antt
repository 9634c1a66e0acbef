-- `summary::paging::put_pages` meets its contract: two texts, one after the other.
-- Assumes nothing.
use borrow.Author.Rules.{rules}
use Rattle.text.proofs.Joined.{says_append}
use Rattle.summary.specs.Summary.{pages_text}
use Rattle.summary.proofs.paging.put_pages.Goals as goal

pub returns : goal.returns
unfolding pages_text
returns c = search (rules, says_append)
