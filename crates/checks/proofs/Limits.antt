-- The tests of the single bytes: each byte beside its limit. The first and the third may be any byte.
-- Assumes nothing.
use Rattle.std.proofs.Common.{◌≡◌, ap, ◌∙◌, ℕ, suc, ◌+◌, ◌<◌, Bool, true, ◌&&◌, List, [], ◌∷◌, length, drop}
use Rattle.std.specs.List.{list_all, zip}
use native.Mathlib.Omega.{arith}
use borrow.Author.Tests.{le-leb}
use mathlib.Core.Bool.{and_assoc, and-true}
use lib.Dec.{leb}
use lib.Seq.{drop-cons}
use Rattle.std.proofs.lemmas.List.{drop_all}
use Rattle.lists.specs.Lists.{at}
use Rattle.layout.specs.Layout.{head_row, head_known}

-- the bytes from a place on, each by its place
within : List ℕ → List ℕ → ℕ → Bool
within [] xs i = true
within (m ∷ limits) xs i = leb (at xs i) m && within limits xs (suc i)

beside : (limits xs : List ℕ) (i : ℕ) → i + length limits ≡ length xs → list_all (λ e. leb e.0 e.1) (zip (drop i xs) limits) ≡ within limits xs i
unfolding within
beside [] xs i e = ap (λ l. list_all (λ e. leb e.0 e.1) (zip l [])) (drop_all i xs (omega arith))
beside (m ∷ limits) xs i e =
    rw (drop-cons xs i 0 (omega arith)) (ap (λ b. leb (at xs i) m && b) (beside limits xs (suc i) (omega arith)))

pub known : (xs : List ℕ) → length xs ≡ head_row.count → ((i : ℕ) → at xs i < 256)
    → list_all (λ e. leb e.0 e.1) (zip xs (255 ∷ 1 ∷ 255 ∷ 1 ∷ 1 ∷ 2 ∷ 1 ∷ 5 ∷ 1 ∷ 1 ∷ [])) ≡ head_known xs
unfolding head_known within
known xs l fits =
    let any : (i : ℕ) → leb (at xs i) 255 ≡ true = λ i. le-leb (at xs i) 255 (omega (arith, fits i)) in
    beside (255 ∷ 1 ∷ 255 ∷ 1 ∷ 1 ∷ 2 ∷ 1 ∷ 5 ∷ 1 ∷ 1 ∷ []) xs 0 (omega (arith, l)) ∙ rw (any 0, any 2) (simp (and_assoc, and-true))
