-- `lent::making::fresh` meets its contract: every field is the definition's, by computing it. Assumes nothing.
use Rattle.flash.specs.Chip.{fresh_flash, blank_sensed, no_pages}
use Rattle.time.specs.Raw.{instant}
use mathlib.Core.Path.{refl}
use Rattle.lent.proofs.making.fresh.Goals as goal

pub returns : goal.returns
unfolding fresh_flash blank_sensed no_pages instant
returns c = rw c.new.ensures refl
