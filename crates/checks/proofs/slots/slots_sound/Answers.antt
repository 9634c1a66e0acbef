-- `checks::slots::slots_sound` meets its contract: an index without opened pages is sound. The loop's invariant: the entries passed are
-- within the opened pages, distinct, and marked.
-- Assumes nothing.
use lib.ListN.{length-set}
use mathlib.Core.Path.{refl, sym, ◌∙◌}
use Rattle.checks.proofs.Marks.{none_passed, past, twice, next, all-passed, none-opened}
use native.Mathlib.Omega.{arith}
use Rattle.checks.proofs.slots.slots_sound.Goals as goal

pub returns-then-used-eq0 : goal.returns-then-used-eq0
returns-then-used-eq0 c = sym (none-opened c.args.indices.now (sym c.opened-used.ensures.0 ∙ c.if-used-eq0.true))

pub loop-entry-init : goal.loop-entry-init
loop-entry-init c = rw (c.into_iter-entry-iterator.ensures.into_iter_gives, c.rev-entry-items.ensures.source, c.iter.ensures.rest) (refl, none_passed c.opened-used.result c.args.indices.now)

pub returns-then-used-entry : goal.returns-then-used-entry
returns-then-used-entry c =
    sym (past _ _ _ _ _ _ c.loop-entry.invariant.1 c.in-Some.ensures.steps (omega arith) c.opened-used.ensures.0)

pub returns-then-marked-entry : goal.returns-then-marked-entry
returns-then-marked-entry c =
    sym (twice _ _ _ _ _ _ c.loop-entry.invariant.1 c.in-Some.ensures.steps (omega arith) (rw c.from-entry.ensures at c.if-marked-entry.true))

pub loop-entry-preserved : goal.loop-entry-preserved
loop-entry-preserved c =
    let l = c.loop-entry in
    rw c.from-entry.ensures (
      simp length-set l.invariant.0,
      next _ _ _ _ _ _ l.invariant.1 c.in-Some.ensures.steps (omega arith) (omega arith) l.invariant.0 (rw c.from-entry.ensures at c.if-marked-entry.false),
    )

pub returns : goal.returns
returns c = sym (all-passed _ _ _ _ c.loop-entry.invariant.1 c.in-None.ensures.steps.0 c.opened-used.ensures.0)
