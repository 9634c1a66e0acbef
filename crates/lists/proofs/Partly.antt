-- A loop that replaces the elements of a list one after the other: the list after n turns, and that after all of them it is the map.
-- Assumes nothing.
use mathlib.Core.Path.{◌≡◌, refl, sym, ◌∙◌}
use mathlib.Core.List.{List}
use Prim.Native.Nat.{ℕ, zero, suc, ◌+◌, ◌<◌, ◌≤◌}
use native.Mathlib.Nat.{not-suc-le-zero}
use native.Mathlib.Numerals.{add-one}
use native.Mathlib.Omega.{arith}
use native.Mathlib.Decide.{ℕ_discrete}
use lib.ListN.{length, get_or, set, length-set}
use lib.Seq.{get_or-set_same, get_or-set_other, ext_get_or}
use Rattle.lists.specs.Lists.{mapi}
use Rattle.lists.proofs.Maps.{length-mapi, get_or-mapi}

abbrev pub partly : (ℕ → ℕ → ℕ) → ℕ → List ℕ → List ℕ
partly f zero xs = xs
partly f (suc n) xs = set (partly f n xs) n (f n (get_or xs n 0))

length-partly : (f : ℕ → ℕ → ℕ) (n : ℕ) (xs : List ℕ) → length (partly f n xs) ≡ length xs
length-partly f zero xs = refl
length-partly f (suc n) xs = length-set (partly f n xs) n _ ∙ length-partly f n xs

partly-above : (f : ℕ → ℕ → ℕ) (n : ℕ) (xs : List ℕ) (k : ℕ) → n ≤ k → get_or (partly f n xs) k 0 ≡ get_or xs k 0
partly-above f zero xs k h = refl
partly-above f (suc n) xs k h = get_or-set_other (partly f n xs) n k _ 0 (omega arith) ∙ partly-above f n xs k (omega arith)

partly-below : (f : ℕ → ℕ → ℕ) (n : ℕ) (xs : List ℕ) (k : ℕ) → k < n → n ≤ length xs → get_or (partly f n xs) k 0 ≡ f k (get_or xs k 0)
partly-below f zero xs k h l = absurd (not-suc-le-zero h)
partly-below f (suc n) xs k h l = at (λ g. partly-below f n xs k g (omega arith)) (ℕ_discrete k n)
  where
    at : (k < n → get_or (partly f n xs) k 0 ≡ f k (get_or xs k 0)) → Dec (k ≡ n)
        → get_or (partly f (suc n) xs) k 0 ≡ f k (get_or xs k 0)
    at r (yes e) = rw e (get_or-set_same (partly f n xs) n _ 0 (rw (length-partly f n xs) l))
    at r (no d) = get_or-set_other (partly f n xs) n k _ 0 d ∙ r (omega arith)

-- one turn more
pub partly-turn : (f : ℕ → ℕ → ℕ) (i : ℕ) (xs ys : List ℕ) (v : ℕ) → ys ≡ partly f i xs → v ≡ f i (get_or ys i 0)
    → set ys i v ≡ partly f (i + 1) xs
partly-turn f i xs ys v e d = rw (d, e, add-one i, partly-above f i xs i (omega arith))

-- all turns
pub partly-all : (f : ℕ → ℕ → ℕ) (xs : List ℕ) (n : ℕ) → n ≡ length xs → partly f n xs ≡ mapi f 0 xs
partly-all f xs n e =
    ext_get_or 0 (partly f n xs) (mapi f 0 xs) (length-partly f n xs ∙ sym (length-mapi f 0 xs))
    (λ i h. let l = length-partly f n xs in
    partly-below f n xs i (omega arith) (omega arith) ∙ sym (get_or-mapi f xs i (omega arith)))
