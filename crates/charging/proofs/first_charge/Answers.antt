-- `charging::first_charge` meets its contract: the test of the stored bit picks the same case in the code and in the rule.
-- Assumes nothing.
use borrow.Author.Tests.{eq-eqb, ne_eqb}
use Rattle.charging.proofs.first_charge.Goals as goal

pub returns-then-stored-eq1 : goal.returns-then-stored-eq1
returns-then-stored-eq1 c = simp (eq-eqb _ 1 c.if-stored-eq1.true)

pub returns-else-stored-eq1 : goal.returns-else-stored-eq1
returns-else-stored-eq1 c = simp (ne_eqb _ 1 c.if-stored-eq1.false)
