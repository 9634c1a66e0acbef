-- `lent::memory::Lent::opened` meets its contract: the lengths were tested, so that memory is refused as its record is, and the state that
-- was opened fits the memory. Assumes nothing.
use mathlib.Core.Path.{sym, ◌∙◌}
use Rattle.std.specs.Prelude.{Ok}
use Rattle.lent.proofs.Holding.{opened-fit, opened-if}
use Rattle.lent.proofs.memory.Lent.opened.Goals as goal

pub invariant_of-result : goal.invariant_of-result
invariant_of-result c =
    let e = c.in_ok-flash.ensures in
    record { fit = opened-fit _ _ (opened-if _ (Ok c.in_ok-flash.flash) (sym c.misfits.ensures ∙ c.if-misfits.false) e.told e.bytes).1 }

pub returns-clause-opened : goal.returns-clause-opened
returns-clause-opened c =
    let e = c.in_ok-flash.ensures in
    (opened-if _ (Ok c.in_ok-flash.flash) (sym c.misfits.ensures ∙ c.if-misfits.false) e.told e.bytes).1
