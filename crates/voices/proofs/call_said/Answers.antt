-- `voices::call_said` meets its contract: the events, and after them the answer. Assumes nothing.
use borrow.Author.Rules.{rules}
use Rattle.text.proofs.Joined.{says_append}
use Rattle.voices.proofs.call_said.Goals as goal

pub returns-then-events_asked : goal.returns-then-events_asked
returns-then-events_asked c = rw c.if-events_asked.true (search (rules, says_append))
