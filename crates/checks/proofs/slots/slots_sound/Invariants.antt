-- `checks::slots::slots_sound` meets its contract: an index without opened pages is sound. The loop's invariant: the entries passed are
-- within the opened pages, distinct, and marked.
-- Assumes nothing.
use lib.ListN.{length}
use mathlib.Core.Path.{◌≡◌}
use Rattle.checks.proofs.Marks.{Walked}
use Rattle.checks.proofs.slots.slots_sound.Given as goal

abbrev pub invariant-loop-entry : goal.invariant-loop-entry
invariant-loop-entry l = (length l.marked ≡ 385) × Walked l.used l.indices l.entry-iterator.iter.rest.now l.marked
