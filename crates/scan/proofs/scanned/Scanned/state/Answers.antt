-- `scan::scanned::Scanned::state` meets its contract: what was scanned has its whole state after the charge pages. Assumes nothing.
use Rattle.snapshot.proofs.Places.{scan-room}
use Rattle.scan.proofs.scanned.Scanned.state.Goals as goal

pub invariant_of-result : goal.invariant_of-result
invariant_of-result c = record { whole = rw (c.page_at.ensures, c.count.ensures.count) (scan-room _ c.args.self.now.good).2 }
