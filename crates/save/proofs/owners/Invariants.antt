-- `save::owners` meets its contract. The loop's invariant: each slot that a page passed has, by the first such page.
-- Assumes nothing.
use mathlib.Core.Path.{◌≡◌}
use lib.ListN.{length}
use Rattle.save.proofs.Filled.{Front, Owned}
use Rattle.save.proofs.owners.Given as goal

abbrev pub invariant-loop-i : goal.invariant-loop-i
invariant-loop-i l =
    let left = l.i-iterator.iter.iter.rest.now in
    (length l.found ≡ 384) × (l.i-iterator.iter.count ≡ 0) × Front l.held.flash.indices left × Owned (length left) l.held.flash.indices l.found
