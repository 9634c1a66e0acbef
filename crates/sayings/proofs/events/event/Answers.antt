-- `sayings::events::event` meets its contract: three texts, one after the other.
-- Assumes nothing.
use borrow.Author.Rules.{rules}
use Rattle.text.proofs.Joined.{says_append}
use Rattle.sayings.proofs.events.event.Goals as goal

pub returns : goal.returns
returns c = search (rules, says_append)
