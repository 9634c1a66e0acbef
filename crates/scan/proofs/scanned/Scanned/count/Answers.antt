-- `scan::scanned::Scanned::count` meets its contract: what was scanned has a count, of no more pages than there are. Assumes nothing.
use Rattle.snapshot.proofs.Places.{scan-room}
use Rattle.scan.proofs.scanned.Scanned.count.Goals as goal

pub count_in-requires : goal.count_in-requires
count_in-requires c = (scan-room _ c.args.self.now.good).0

pub returns-clause-few : goal.returns-clause-few
returns-clause-few c = rw c.count_in.ensures (scan-room _ c.args.self.now.good).1
