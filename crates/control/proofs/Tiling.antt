-- The six blocks stand one after the other in their order and make up the array: by computation.
-- Assumes nothing.
use mathlib.Core.Path.{refl}
use mathlib.Core.List.{[], ◌∷◌}
use Rattle.control.specs.Blocks.{erase_range, InOrder}

pub blocks-in-order : InOrder 0 (1 ∷ 2 ∷ 4 ∷ 8 ∷ 16 ∷ 32 ∷ [])
unfolding InOrder erase_range
blocks-in-order = (refl, (refl, (refl, (refl, (refl, (refl, refl))))))
