-- The chip that a value of the code stands for.
-- Assumes nothing.
use Rattle.flash.specs.declared.held.Held.{Held}
use Rattle.flash.specs.Chip.{Chip, chip}

abbrev pub chip_of : Held → Chip
chip_of held = chip held.flash held.array.now held.charges.now
