-- `settling::tallies::counted` meets its contract. The loop's invariant: the counts are those after the words passed.
-- Assumes nothing.
use mathlib.Core.Path.{sym, ap, ◌∙◌}
use native.Mathlib.Numerals.{add-one}
use native.Mathlib.Omega.{arith}
use borrow.Author.Rules.{rules}
use lib.ListN.{length}
use lib.Seq.{take-suc}
use Rattle.settle.proofs.Tallied.{length-counted, counted_none, counted-more}
use Rattle.settling.proofs.tallies.counted.Goals as goal

pub loop-word-init : goal.loop-word-init
loop-word-init c = (search rules, sym (counted_none _ _))

pub loop-word-preserved : goal.loop-word-preserved
loop-word-preserved c =
    let l = c.loop-word in
    (ap length c.count_word.ensures ∙ simp length-counted l.invariant.0, c.count_word.ensures ∙ rw (l.invariant.1, counted-more, add-one l.word-index, take-suc c.args.words.now l.word-index 0 (omega arith)))
