-- The byte events and the end events among some event words.
-- Assumes nothing.
use Rattle.std.specs.Prelude.{ℕ, cond, List, [], ◌∷◌, set}
use Rattle.settle.specs.Words.{address_in, value_in, is_byte}

-- an array with the byte events among some words applied in order
unfoldable pub applied : List ℕ → List ℕ → List ℕ
applied [] array = array
applied (w ∷ ws) array = applied ws (cond (is_byte w) (set array (address_in w) (value_in w)) array)

-- the byte events among some words; the end events
unfoldable pub bytes_in : List ℕ → List ℕ
bytes_in [] = []
bytes_in (w ∷ ws) = cond (is_byte w) (w ∷ bytes_in ws) (bytes_in ws)

unfoldable pub ends_in : List ℕ → List ℕ
ends_in [] = []
ends_in (w ∷ ws) = cond (is_byte w) (ends_in ws) (w ∷ ends_in ws)
