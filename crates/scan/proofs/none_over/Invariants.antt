-- `scan::none_over` meets its contract. The loop's invariant: what all the charges answer is what those passed answer, by the highest bit of
-- their numbers together, or else what the rest answers. Assumes nothing.
use Rattle.scan.proofs.Charges.{Looked}
use Rattle.scan.proofs.none_over.Given as goal

abbrev pub invariant-loop-charge : goal.invariant-loop-charge
invariant-loop-charge l = Looked l.count l.bytes l.at l.all l.charge-index
