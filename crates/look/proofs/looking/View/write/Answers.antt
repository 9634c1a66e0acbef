-- `look::looking::View::write` meets its contract: without an exposure the image is the stored array.
-- Assumes nothing.
use mathlib.Core.Path.{ap, ◌∙◌}
use native.Mathlib.Omega.{arith}
use lib.Seq.{sets, take_all}
use Rattle.look.proofs.looking.View.write.Goals as goal

pub returns-in_default : goal.returns-in_default
returns-in_default c =
    let x = c.args in
    c.write_stored.ensures ∙ rw c.in_default.is (ap (sets x.out.now 0) (take_all 49152 x.self.now.cells.array.now (omega arith)))

pub returns : goal.returns
returns c = rw c.in-Some.is c.write_pages.ensures
