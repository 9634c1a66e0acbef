-- Laws of numbers written in digits: what one digit more makes of a number, and how large a number of so many digits can be.
-- A number that starts below w is, after k digits more, below w times base ^ k. Assumes nothing.
use mathlib.Core.Path.{◌≡◌, refl, ◌∙◌}
use mathlib.Core.Bool.{Bool, true, false, cond}
use mathlib.Core.List.{List, [], ◌∷◌}
use Rattle.std.specs.Prelude.{Result, Ok, Err}
use Prim.Native.Nat.{ℕ, suc, ◌+◌, ◌*◌, ◌^◌, ◌<◌, ◌≤◌}
use native.Mathlib.Nat.{mul-le-mul_right, suc-mul, mul_assoc, mul_comm, one-mul, mul-one, pow-suc, pow-zero}
use native.Mathlib.Omega.{arith}
use lib.Dec.{ltb, eqb, lit<}
use lib.ListN.{length}
use borrow.Author.Tests.{ltb-true, lt-ltb, le-ltb, eqb-true}
use Rattle.digits.specs.Digits.{digit_of, number_from, number_in, hex_in}
use Rattle.digits.specs.declared.NoNumber.{NoNumber}
use Rattle.digits.specs.declared.NoNumber.TheVariants.{TooLarge, NotDigits}

-- one byte more
module _ (base n b : ℕ) (bs : List ℕ) where
  pub no_digit : base ≤ digit_of b → number_from base n (b ∷ bs) ≡ Err NotDigits
  unfolding number_from
  no_digit h = rw (le-ltb (digit_of b) base h)

  pub one-too-large : digit_of b < base → 2 ^ 64 ≤ n * base + digit_of b → number_from base n (b ∷ bs) ≡ Err TooLarge
  unfolding number_from
  one-too-large h l = rw (lt-ltb (digit_of b) base h, le-ltb (n * base + digit_of b) (2 ^ 64) l)

  pub one-digit : digit_of b < base → n * base + digit_of b < 2 ^ 64 → number_from base n (b ∷ bs) ≡ number_from base (n * base + digit_of b) bs
  unfolding number_from
  one-digit h l = rw (lt-ltb (digit_of b) base h, lt-ltb (n * base + digit_of b) (2 ^ 64) l)

-- a digit more than a number below w is a number below w times the base
grown : (base w n d : ℕ) → n < w → d < base → n * base + d < w * base
grown base w n d h l = let m : suc n * base ≤ w * base = mul-le-mul_right base h in omega (arith, suc-mul n base)

regrouped : (base w k : ℕ) → w * base * base ^ k ≡ w * base ^ suc k
regrouped base w k = mul_assoc w base (base ^ k) ∙ rw (mul_comm base (base ^ k), pow-suc base k)

-- what the digits after a number below w make of it
from-below : (base w n m : ℕ) (bs : List ℕ) → n < w → number_from base n bs ≡ Ok m → m < w * base ^ length bs
unfolding number_from
from-below base w n m [] h e = let same : m ≡ n = cc in rw (pow-zero base, mul-one w) (omega arith)
from-below base w n m (b ∷ bs) h e = by (ltb (digit_of b) base) (ltb (n * base + digit_of b) (2 ^ 64)) refl e (from-below base (w * base) (n * base + digit_of b) m bs)
  where
    by :
        (p q : Bool)
        → ltb (digit_of b) base ≡ p
        → cond p (cond q (number_from base (n * base + digit_of b) bs) (Err TooLarge)) (Err NotDigits) ≡ Ok m
        → (n * base + digit_of b < w * base → number_from base (n * base + digit_of b) bs ≡ Ok m → m < w * base * base ^ length bs)
        → m < w * base ^ suc (length bs)
    by true true d e rest = rw (regrouped base w (length bs)) at (rest (grown base w n (digit_of b) h (ltb-true _ _ d)) e)
    by true false d e rest = let z : ◌≡◌ {A = ℕ} 0 1 = cc in omega arith
    by false q d e rest = let z : ◌≡◌ {A = ℕ} 0 1 = cc in omega arith

-- a number of 64 bits stays one
from-64 : (base n m : ℕ) (bs : List ℕ) → n < 2 ^ 64 → number_from base n bs ≡ Ok m → m < 2 ^ 64
unfolding number_from
from-64 base n m [] h e = let same : m ≡ n = cc in omega arith
from-64 base n m (b ∷ bs) h e = by (ltb (digit_of b) base) (ltb (n * base + digit_of b) (2 ^ 64)) refl e (from-64 base (n * base + digit_of b) m bs)
  where
    by :
        (p q : Bool)
        → ltb (n * base + digit_of b) (2 ^ 64) ≡ q
        → cond p (cond q (number_from base (n * base + digit_of b) bs) (Err TooLarge)) (Err NotDigits) ≡ Ok m
        → (n * base + digit_of b < 2 ^ 64 → number_from base (n * base + digit_of b) bs ≡ Ok m → m < 2 ^ 64)
        → m < 2 ^ 64
    by true true l e rest = rest (ltb-true _ _ l) e
    by true false l e rest = let z : ◌≡◌ {A = ℕ} 0 1 = cc in omega arith
    by false q l e rest = let z : ◌≡◌ {A = ℕ} 0 1 = cc in omega arith

-- a number of k digits is below base ^ k, and below 2^64
module _ (base n : ℕ) where
  pub number-below : (bs : List ℕ) → number_in base bs ≡ Ok n → n < base ^ length bs
  unfolding number_in
  number-below [] e = let z : ◌≡◌ {A = ℕ} 0 1 = cc in omega arith
  number-below (b ∷ bs) e = rw one-mul at (from-below base 1 0 n (b ∷ bs) (lit< tt) e)

  pub number-64 : (bs : List ℕ) → number_in base bs ≡ Ok n → n < 2 ^ 64
  unfolding number_in
  number-64 [] e = let z : ◌≡◌ {A = ℕ} 0 1 = cc in omega arith
  number-64 (b ∷ bs) e = from-64 base 0 n (b ∷ bs) (lit< tt) e

-- of exactly k hexadecimal digits
module _ (k : ℕ) (bs : List ℕ) where
  hex-cases : {r : Result ℕ NoNumber} → (Err NotDigits ≡ r → ⊥) → hex_in k bs ≡ r → (length bs ≡ k) × (number_in 16 bs ≡ r)
  unfolding hex_in
  hex-cases {r} other e = by (eqb (length bs) k) refl e
    where
      by : (p : Bool) → eqb (length bs) k ≡ p → cond p (number_in 16 bs) (Err NotDigits) ≡ r → (length bs ≡ k) × (number_in 16 bs ≡ r)
      by true l e = (eqb-true _ _ l, e)
      by false l e = absurd (other e)

  pub hex-below : (n : ℕ) → hex_in k bs ≡ Ok n → n < 16 ^ k
  hex-below n e =
      let is = hex-cases (λ z. let z : ◌≡◌ {A = ℕ} 0 1 = cc in omega arith) e in
      rw is.0 at (number-below 16 n bs is.1)
