-- `time::Duration::is_zero` meets its contract: a length is 0 where both its halves are. Assumes nothing.
use Rattle.std.proofs.Common.{rules}
use Rattle.time.proofs.Laws.{zero-eqb}
use Rattle.time.proofs.Duration.is_zero.Goals as goal

pub returns : goal.returns
returns c = rw (← zero-eqb c.args.self) (search rules)
