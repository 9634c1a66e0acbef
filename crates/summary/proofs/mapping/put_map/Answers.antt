-- `summary::mapping::put_map` meets its contract: the head and the rows, one after the other, or nothing.
-- Assumes nothing.
use borrow.Author.Rules.{rules}
use Rattle.text.proofs.Joined.{says_append}
use Rattle.summary.specs.Summary.{map_text}
use Rattle.summary.proofs.mapping.put_map.Goals as goal

pub returns-in-Some : goal.returns-in-Some
unfolding map_text
returns-in-Some c = rw c.in-Some.is (search (rules, says_append))
