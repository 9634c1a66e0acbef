-- `look::looking::View::blank` meets its contract: a page that no exposure covers is blank if its stored bytes read FF. Assumes nothing.
use mathlib.Core.Path.{◌∙◌}
use Rattle.look.proofs.After.{blank-stays}
use Rattle.look.proofs.looking.View.blank.Goals as goal

pub returns-in-None : goal.returns-in-None
returns-in-None c = c.stored_blank.ensures ∙ blank-stays c.args.self.now.cells c.args.self.now.exposure c.args.page c.in-None.ensures.none

pub returns-in-Some : goal.returns-in-Some
returns-in-Some c = rw c.in-Some.ensures.some.0 c.sensed_blank.ensures
