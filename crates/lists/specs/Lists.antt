-- An element of a list by its place, an update of every element by its place, a table.
-- Assumes nothing.
use Rattle.std.specs.Prelude.{ℕ, suc, List, [], ◌∷◌, get_or, replicate}

abbrev pub at : List ℕ → ℕ → ℕ
at xs k = get_or xs k 0

abbrev pub mapi : (ℕ → ℕ → ℕ) → ℕ → List ℕ → List ℕ
mapi f i [] = []
mapi f i (x ∷ xs) = f i x ∷ mapi f (suc i) xs

-- g 0, g 1, .. : n numbers
abbrev pub tabulate : (ℕ → ℕ) → ℕ → List ℕ
tabulate g n = mapi (λ k x. g k) 0 (replicate n 0)
