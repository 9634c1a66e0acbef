-- `look::looking::View::byte` meets its contract: a byte that no exposure covers stays. Assumes nothing.
use Rattle.look.proofs.After.{byte-stays}
use Rattle.look.proofs.looking.View.byte.Goals as goal

pub returns-in-None : goal.returns-in-None
returns-in-None c = byte-stays c.args.self.now.cells c.args.self.now.exposure _ c.in-None.ensures.none

pub returns-in-Some : goal.returns-in-Some
returns-in-Some c = rw c.in-Some.ensures.some.0 c.sensed_after.ensures
