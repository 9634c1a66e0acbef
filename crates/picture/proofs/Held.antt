-- Charges of a page, one cell after the other: whether one of them is held, over the list of their places.
-- Assumes nothing.
use mathlib.Core.Path.{◌≡◌, refl, ap, sym, ◌∙◌}
use Prim.Native.Nat.{ℕ, zero, suc, ◌+◌}
use native.Mathlib.Nat.{add-suc, add-zero}
use native.Mathlib.Numerals.{add-one}
use lib.Dec.{ltb}
use Rattle.std.specs.List.{list_any, range_with_len}
use Rattle.picture.specs.Marks.{holds_charge}

module _ (q : ℕ → ℕ) (start : ℕ) where
  holds-from : (n i : ℕ) → holds_charge q n (start + i) ≡ list_any (λ k. ltb 0 (q (start + k))) (range_with_len i n)
  unfolding holds_charge
  holds-from zero i = refl
  holds-from (suc n) i = rw (add-one i, ← holds-from n (suc i), add-suc)

  pub holds-any : (n : ℕ) → holds_charge q n start ≡ list_any (λ k. ltb 0 (q (start + k))) (range_with_len 0 n)
  holds-any n = ap (holds_charge q n) (sym (add-zero start)) ∙ holds-from n 0
