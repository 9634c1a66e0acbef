-- `save::put_pages` meets its contract. The loop's invariant: the pages of the slots passed stand after what was there.
-- Assumes nothing.
use Prim.Native.Nat.{◌≤◌}
use mathlib.Core.Path.{◌≡◌}
use mathlib.Core.List.{◌++◌}
use lib.ListN.{length, take}
use Rattle.snapshot.specs.Places.{pages_place, page_at}
use Rattle.save.proofs.Filled.{page_run}
use Rattle.save.proofs.put_pages.Given as goal

abbrev pub invariant-loop-slot : goal.invariant-loop-slot
invariant-loop-slot l = (l.count ≤ 384) × (length l.out ≡ length l.initial.out) × (take (page_at l.slot) l.out ≡ take pages_place l.initial.out ++ page_run l.held.flash.indices l.held.charges.now l.slot 0)
