-- `settle::pages::opened` meets its contract. The loop's invariant: the count, and the opened pages of the entries that are left, are together
-- those of the index.
-- Assumes nothing.
use mathlib.Core.Path.{◌≡◌}
use Prim.Native.Nat.{◌+◌, ◌≤◌}
use lib.ListN.{drop}
use Rattle.settle.specs.Pages.{opened}
use Rattle.settle.proofs.pages.opened.Given as goal

abbrev pub invariant-loop-entry : goal.invariant-loop-entry
invariant-loop-entry l = (l.n ≤ l.entry-index) × (l.n + opened (drop l.entry-index l.indices) ≡ opened l.indices)
