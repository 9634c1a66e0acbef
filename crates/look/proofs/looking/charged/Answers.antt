-- `look::looking::charged` meets its contract: the rule of one cell, by its bit of the latch.
-- Assumes nothing.
use mathlib.Core.Path.{◌∙◌}
use Rattle.settle.specs.Settling.{charged}
use Rattle.look.proofs.looking.charged.Goals as goal

pub returns : goal.returns
unfolding charged
returns c = c.expose.ensures ∙ rw c.page_bit-bit.ensures
