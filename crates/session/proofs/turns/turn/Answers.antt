-- `session::turns::turn` meets its contract: a turn may do nothing, and the course that goes on is the run's. Assumes nothing.
use Rattle.session.proofs.Gone.{goes-nowhere}
use Rattle.session.proofs.turns.turn.Goals as goal

pub returns-in_default-clause-goes : goal.returns-in_default-clause-goes
returns-in_default-clause-goes g c = goes-nowhere c.args.manner c.args.run.more _

pub returns-else-run-clause-goes : goal.returns-else-run-clause-goes
returns-else-run-clause-goes g c = goes-nowhere c.args.manner c.args.run.more _
