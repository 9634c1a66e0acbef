-- A blank page as a list. Assumes nothing.
use mathlib.Core.Path.{◌≡◌, refl}
use mathlib.Core.List.{List}
use Prim.Native.Nat.{ℕ, zero, suc}
use native.Mathlib.Numerals.{add-one}
use lib.Dec.{eqb}
use Rattle.std.specs.List.{list_all, range_with_len}
use Rattle.lists.specs.Lists.{at}
use Rattle.flash.specs.Looking.{all_blank}

-- ---- n bytes from address a on, as a list of their addresses

pub all-blank-range : (n a : ℕ) (image : List ℕ) → all_blank n a image ≡ list_all (λ i. eqb (at image i) 255) (range_with_len a n)
unfolding all_blank
all-blank-range zero a image = refl
all-blank-range (suc n) a image = rw (add-one, all-blank-range n (suc a) image)
