-- `settling::tallies::counted` meets its contract. The loop's invariant: the counts are those after the words passed.
-- Assumes nothing.
use mathlib.Core.Path.{◌≡◌}
use lib.ListN.{length, take}
use Rattle.settling.specs.Kinds.{kind_number}
use Rattle.settle.specs.Tallies.{counted}
use Rattle.settling.proofs.tallies.counted.Given as goal

abbrev pub invariant-loop-word : goal.invariant-loop-word
invariant-loop-word l = (length l.all ≡ 6) × (l.all ≡ counted (kind_number l.kind) (take l.word-index l.words) l.initial.all)
