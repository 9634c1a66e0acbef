-- What a byte's place says of where it first stands. Assumes nothing.
use Rattle.std.proofs.Common.{◌≡◌, ℕ, ◌<◌, Bool, true, false, cond, List, Some, None, length, refl, eqb, ltb, not, arith}
use Rattle.std.specs.List.{position}
use Rattle.std.proofs.lemmas.List.Sums.{prefix_len-le-length}
use borrow.Author.Tests.{ltb-true, ltb-false}
use Rattle.byte_search.specs.Search.{index_of}

module _ (byte : ℕ) (xs : List ℕ) where
  pub here : (k : ℕ) → Some k ≡ position (λ b. eqb b byte) xs → (k ≡ index_of byte xs) × (k < length xs)
  here k = by (ltb (index_of byte xs) (length xs)) refl
    where
      by : (t : Bool) → ltb (index_of byte xs) (length xs) ≡ t → Some k ≡ cond t (Some (index_of byte xs)) None → (k ≡ index_of byte xs) × (k < length xs)
      by true t e = let is : k ≡ index_of byte xs = cc in (is, omega (arith, ltb-true (index_of byte xs) (length xs) t))
      by false t e = let z : ◌≡◌ {A = ℕ} 0 1 = cc in (omega arith, omega arith)

  pub nowhere : None ≡ position (λ b. eqb b byte) xs → index_of byte xs ≡ length xs
  nowhere = by (ltb (index_of byte xs) (length xs)) refl
    where
      by : (t : Bool) → ltb (index_of byte xs) (length xs) ≡ t → None ≡ cond t (Some (index_of byte xs)) None → index_of byte xs ≡ length xs
      by true t e = let z : ◌≡◌ {A = ℕ} 0 1 = cc in omega arith
      by false t e = omega (arith, ltb-false (index_of byte xs) (length xs) t, prefix_len-le-length (λ b. not (eqb b byte)) xs)
