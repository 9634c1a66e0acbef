-- The sum so far with the parts left makes what all parts make.
use Rattle.std.proofs.Common.{◌≡◌, length, drop, eqb}
use Rattle.std.specs.List.{slice_split}
use Rattle.words.specs.Values.{bits_from, bits_named}
use Rattle.words.proofs.names.values.bits_named.Given as goal

abbrev pub invariant-loop-part : goal.invariant-loop-part
invariant-loop-part l =
    (goal.iterator-loop-part).can_next l.part-iterator
    × (goal.iterator-loop-part).is_finite l.part-iterator
    × (bits_from l.register l.sum (drop (length l.yielded) (slice_split (λ b. eqb b 43) l.word)) ≡ bits_named l.register l.word)
