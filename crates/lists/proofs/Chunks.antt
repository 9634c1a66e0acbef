-- A list cut into chunks of one width: what stands in a chunk stands in the list. Assumes nothing.
use mathlib.Core.Path.{◌≡◌, ap, ◌∙◌}
use mathlib.Core.List.{List, []}
use Prim.Native.Nat.{ℕ, zero, suc, ◌+◌, ◌*◌, ◌<◌}
use native.Mathlib.Nat.{not-suc-le-zero}
use native.Mathlib.Omega.{arith}
use lib.ListN.{get_or, drop}
use lib.Seq.{get_or-take, get_or-drop}
use Rattle.std.specs.Simd.{first_chunks}

-- the place j of the chunk i
pub chunk-at : (w n i : ℕ) (xs : List ℕ) → i < n → (j : ℕ) → j < w → get_or (get_or (first_chunks w n xs) i []) j 0 ≡ get_or xs (i * w + j) 0
chunk-at w zero i xs h j g = absurd (not-suc-le-zero h)
chunk-at w (suc n) zero xs h j g =
    let e : j ≡ 0 * w + j = omega arith in
    get_or-take w xs j 0 g ∙ ap (λ (k : ℕ). get_or xs k 0) e
chunk-at w (suc n) (suc i) xs h j g =
    let e : w + (i * w + j) ≡ suc i * w + j = omega arith in
    chunk-at w n i (drop w xs) (omega arith) j g ∙ get_or-drop w xs (i * w + j) 0 ∙ ap (λ (k : ℕ). get_or xs k 0) e
