-- A list updated by a rule of place and element: its length, its elements, and that rules equal on its elements give the same list.
-- Assumes nothing.
use mathlib.Core.Path.{◌≡◌, refl, sym, ap, ◌∙◌}
use mathlib.Core.List.{List, [], ◌∷◌}
use Prim.Native.Nat.{ℕ, zero, suc, ◌+◌, ◌<◌}
use native.Mathlib.Nat.{add-zero, zero-add, add-suc, suc-add, le_of_suc-le-suc, not-suc-le-zero}
use lib.ListN.{length, get_or}
use lib.Seq.{ext_get_or}
use Rattle.lists.specs.Lists.{mapi}

pub length-mapi : (f : ℕ → ℕ → ℕ) (i : ℕ) (xs : List ℕ) → length (mapi f i xs) ≡ length xs
length-mapi f i [] = refl
length-mapi f i (x ∷ xs) = ap suc (length-mapi f (suc i) xs)

get_or-mapi-from : (f : ℕ → ℕ → ℕ) (i : ℕ) (xs : List ℕ) (k : ℕ) → k < length xs → get_or (mapi f i xs) k 0 ≡ f (i + k) (get_or xs k 0)
get_or-mapi-from f i [] k h = absurd (not-suc-le-zero h)
get_or-mapi-from f i (x ∷ xs) zero h = rw (add-zero i)
get_or-mapi-from f i (x ∷ xs) (suc k) h =
    get_or-mapi-from f (suc i) xs k (le_of_suc-le-suc h) ∙ ap (λ (n : ℕ). f n (get_or xs k 0)) (suc-add i k ∙ sym (add-suc i k))

pub get_or-mapi : (f : ℕ → ℕ → ℕ) (xs : List ℕ) (k : ℕ) → k < length xs → get_or (mapi f 0 xs) k 0 ≡ f k (get_or xs k 0)
get_or-mapi f xs k h = get_or-mapi-from f 0 xs k h ∙ ap (λ (n : ℕ). f n (get_or xs k 0)) (zero-add k)

pub mapi-same : (f g : ℕ → ℕ → ℕ) (xs : List ℕ) → ((k : ℕ) → k < length xs → f k (get_or xs k 0) ≡ g k (get_or xs k 0))
    → mapi f 0 xs ≡ mapi g 0 xs
mapi-same f g xs e =
    ext_get_or 0 (mapi f 0 xs) (mapi g 0 xs) (length-mapi f 0 xs ∙ sym (length-mapi g 0 xs))
    (λ k h. let l : k < length xs = rw (length-mapi f 0 xs) at h in
    get_or-mapi f xs k l ∙ e k l ∙ sym (get_or-mapi g xs k l))
