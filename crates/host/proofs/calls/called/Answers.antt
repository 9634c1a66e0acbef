-- `host::calls::called` meets its contract: the count that is stored is that of the answer. Assumes nothing.
use mathlib.Core.Path.{refl}
use borrow.Author.Rules.{rules}
use Rattle.host.proofs.Answered.{told-by, value-by}
use Rattle.host.proofs.calls.called.Goals as goal

pub returns-clause-left : goal.returns-clause-left
returns-clause-left c = told-by _ c.ask-outcome.ensures.outcome refl (search rules)

pub returns-clause-value : goal.returns-clause-value
returns-clause-value c = value-by _ c.ask-outcome.ensures.outcome
