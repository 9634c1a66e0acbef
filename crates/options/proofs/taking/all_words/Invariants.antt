-- The words so far with those of what is left are all words.
use Rattle.std.specs.Slice.Iter.{split_inclusive_rest}
use Rattle.options.proofs.Reading.{Reading}
use Rattle.options.proofs.taking.all_words.Given as goal

abbrev pub invariant-loop-piece : goal.invariant-loop-piece
invariant-loop-piece l =
    (goal.iterator-loop-piece).can_next l.piece-iterator
    × (goal.iterator-loop-piece).is_finite l.piece-iterator
    × Reading l.args l.given (split_inclusive_rest l.piece-iterator)
