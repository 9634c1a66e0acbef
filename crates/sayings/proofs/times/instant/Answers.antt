-- `sayings::times::instant` meets its contract: the seconds, and then the fraction if it is not 0.
-- Assumes nothing.
use borrow.Author.Tests.{ne_eqb}
use Rattle.text.proofs.Joined.{says_append}
use Rattle.sayings.proofs.times.instant.Goals as goal

pub returns-then-fraction-ne0 : goal.returns-then-fraction-ne0
returns-then-fraction-ne0 c =
    rw (ne_eqb _ _ c.if-fraction-ne0.true) (says_append _ _ _ _ _ c.say.ensures c.put_fraction.ensures)
