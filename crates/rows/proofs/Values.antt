-- The numbers of a list of values: how many they are, one of them, and one that another takes the place of.
-- Assumes nothing.
use Rattle.std.proofs.Common.{◌≡◌, ℕ, zero, suc, ◌+◌, ◌*◌, ◌<◌, List, ◌∷◌, get_or, length, map, drop, sym, ap, ◌∙◌}
use Rattle.std.proofs.lemmas.List.{length-map, map-set, get_or-map}
use Rattle.std.specs.Array.{IsFromFnResult, IsFromFnResultFrom}
use denote.Param.Members.{Mut, Called}
use Rattle.rows.specs.Rows.{word, row}
use native.Mathlib.Nat.{mul-zero, mul-suc, add-zero, add_assoc}
use native.Mathlib.Numerals.{add-one}
use native.Mathlib.Omega.{arith}
use lib.Seq.{drop-length, drop-cons}
use lib.ListN.{set}

module _ {V : Type 0} (number : V → ℕ) (numbers : List V → List ℕ) (each : (values : List V) → numbers values ≡ map number values) where
  pub length-numbers : (values : List V) → length (numbers values) ≡ length values
  length-numbers values = ap length (each values) ∙ length-map values number

  pub numbers-set : (values : List V) (i : ℕ) (v : V) → numbers (set values i v) ≡ set (numbers values) i (number v)
  numbers-set values i v = each (set values i v) ∙ map-set number values i v ∙ ap (λ l. set l i (number v)) (sym (each values))

  pub get_or-numbers : (values : List V) (i : ℕ) (v : V) → i < length values → v ≡ get_or values i v → get_or (numbers values) i 0 ≡ number v
  get_or-numbers values i v within is =
      ap (λ l. get_or l i 0) (each values) ∙ get_or-map number values i v 0 within ∙ ap number (sym is)

-- what a function gave at each index in turn, where each value is the number whose bytes stand there
module _ {F V : Type 0} (g : Mut F (ℕ × Unit {0}) V) (f : F) (number : V → ℕ) (w place : ℕ) (s : List ℕ) (values : List V)
    (gives : (k : ℕ) (v : V) (f' : F) → Called g f (k, tt) v f' → (f' ≡ f) × (number v ≡ word w s (place + w * k))) where
  rest-row : (n i : ℕ) → i + n ≡ length values → IsFromFnResultFrom g f values i n → map number (drop i values) ≡ row n w (place + w * i) s
  unfolding row
  rest-row zero i e m = let end : i ≡ length values = omega arith in ap (λ j. map number (drop j values)) end ∙ ap (map number) (drop-length values)
  rest-row (suc n) i e (q, v, is, called, m) =
      let given = gives i v q called in
      let rest : map number (drop (i + 1) values) ≡ row n w (place + w * (i + 1)) s = rest-row n (i + 1) (omega arith) (rw given.0 at m) in
      let next : place + w * (i + 1) ≡ place + w * i + w = rw (add-one i, mul-suc w i) (sym (add_assoc place (w * i) w)) in
      ap (map number) (drop-cons values i v (omega arith))
      ∙ rw (is.0, given.1) (ap (λ l. word w s (place + w * i) ∷ l) (rw (add-one i) at rest ∙ ap (λ p. row n w p s) (rw (add-one i) at next)))

  pub made-row : (n : ℕ) → IsFromFnResult g f values n → map number values ≡ row n w place s
  made-row n m = rest-row n 0 (omega (arith, m.long)) m.each ∙ rw (mul-zero w, add-zero place)
