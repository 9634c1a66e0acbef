-- The definition of a filled template on examples: each mark, a number that is cut to its places, and a number that is missing.
-- Assumes nothing.
use mathlib.Core.Path.{◌≡◌, refl}
use mathlib.Core.List.{[], ◌∷◌}
use Rattle.text.specs.Text.{bytes, digits, filled}

each-mark : filled (bytes "line %: @ at $ is &, %.^\n") (bytes "word") (12 ∷ 0xBF0 ∷ 0xE ∷ 18446744073709551615 ∷ 50 ∷ []) ≡ bytes "line 12: word at 0BF0 is 0E, 18446744073709551615.000050\n"
unfolding digits filled
each-mark = refl

cut-to-places : filled (bytes "$ & ^") [] (0x12345 ∷ 0x1FE ∷ 1234567 ∷ []) ≡ bytes "2345 FE 234567"
unfolding digits filled
cut-to-places = refl

none_left : filled (bytes "% of %") [] (7 ∷ []) ≡ bytes "7 of 0"
unfolding digits filled
none_left = refl
