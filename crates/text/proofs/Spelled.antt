-- The digits of a number by what the function that puts them sees: no place left, the last digit alone, or more before it.
-- Assumes nothing.
use mathlib.Core.Path.{◌≡◌, refl}
use mathlib.Core.Bool.{Bool, true, false, not, ◌&&◌, ◌||◌}
use mathlib.Core.List.{[], ◌∷◌, ◌++◌}
use Prim.Native.Nat.{ℕ, zero, suc, ◌-◌, ◌/◌, ◌%◌, ◌≤◌, ◌<◌}
use native.Mathlib.Numerals.{sub-one}
use native.Mathlib.Omega.{arith}
use native.Mathlib.Decide.{dec_le}
use borrow.Author.Tests.{le-leb, lt-leb, lt-ltb, le-ltb}
use lib.Dec.{ltb, leb}
use Rattle.text.specs.Text.{base, digit, digits}

pub digits-none : (padded : Bool) (b k n : ℕ) → k ≤ 0 → digits padded b k n ≡ []
unfolding digits
digits-none padded b zero n h = refl
digits-none padded b (suc k) n h = absurd (omega arith)

-- whether there are more digits than the last
none-before : (padded : Bool) (b n : ℕ) → (not padded && ltb n b) ≡ not (padded || leb b n)
none-before true b n = refl
none-before false b n = by (dec_le b n)
  where
    by : Dec (b ≤ n) → ltb n b ≡ not (leb b n)
    by (yes h) = rw (le-leb b n h, le-ltb n b h)
    by (no h) = rw (lt-leb b n (omega arith), lt-ltb n b (omega arith))

-- d is the last digit, as it was worked out with a base b that is the definition's
module _ (padded hex : Bool) (b k n d : ℕ) (some : 0 < k) (same : b ≡ base hex) (last : d ≡ digit (n % b)) where
  pub digits_last : padded || leb b n ≡ false → digits padded (base hex) k n ≡ d ∷ []
  unfolding digits
  digits_last e = rw (← same, last) (by k some)
    where
      by : (k : ℕ) → 0 < k → digits padded b k n ≡ digit (n % b) ∷ []
      by zero h = absurd (omega arith)
      by (suc k) h = rw (none-before padded b n, e)

  pub digits_more : padded || leb b n ≡ true → digits padded (base hex) k n ≡ digits padded (base hex) (k - 1) (n / b) ++ d ∷ []
  unfolding digits
  digits_more e = rw (← same, last) (by k some)
    where
      by : (k : ℕ) → 0 < k → digits padded b k n ≡ digits padded b (k - 1) (n / b) ++ digit (n % b) ∷ []
      by zero h = absurd (omega arith)
      by (suc k) h = rw (none-before padded b n, e, sub-one)
