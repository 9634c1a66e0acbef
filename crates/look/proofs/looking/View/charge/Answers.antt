-- `look::looking::View::charge` meets its contract: a cell moves where the exposure covers its page, and by the rule of one cell.
-- Assumes nothing.
use mathlib.Core.Path.{◌∙◌}
use Rattle.look.proofs.After.{cell-stays, cell-here}
use Rattle.look.proofs.looking.View.charge.Goals as goal

pub returns-in-None : goal.returns-in-None
returns-in-None c = c.charge-charge.ensures ∙ cell-stays c.args.self.now.cells c.args.self.now.exposure _ c.requires c.in-None.ensures.none

pub returns-in-Some : goal.returns-in-Some
returns-in-Some c =
    let e = c.in-Some.ensures.some in
    c.charged.ensures ∙ rw (c.charge-charge.ensures, e.0) (cell-here c.in-Some.exposure.now c.args.self.now.cells _ c.requires e.1)
