-- What a number goes on with at the byte of a place: the digit's value is the library's for a base of 16 at most.
-- Assumes nothing.
use Rattle.std.proofs.Common.{◌≡◌, ℕ, ◌+◌, ◌*◌, ◌^◌, ◌<◌, ◌≤◌, Bool, true, false, List, [], ◌∷◌, Ok, Err, length, drop, get_or, refl, ◌∙◌, leb, add-one, arith}
use Rattle.std.proofs.Math.Seq.{drop-cons}
use Rattle.std.proofs.lemmas.Bool.Decides.{nat_tests}
use Rattle.std.specs.Char.{digit_value}
use lib.ListN.{drop_of_length-le}
use borrow.Author.Tests.{leb-true, leb-false}
use Rattle.digits.specs.Digits.{digit_of, number_from, number_in}
use Rattle.digits.specs.declared.NoNumber.TheVariants.{TooLarge, NotDigits}
use Rattle.digits.proofs.Laws.{no_digit, one-too-large, one-digit}

pub digit_is : (b : ℕ) → digit_value b < 16 → digit_of b ≡ digit_value b
unfolding digit_of
digit_is b h = grind (arith, nat_tests)

other-is : (b : ℕ) → 16 ≤ digit_value b → digit_of b ≡ 16
unfolding digit_of
other-is b h = grind (arith, nat_tests)

module _ (word : List ℕ) (base n i : ℕ) (small : base ≤ 16) where
  pub stops : i < length word → base ≤ digit_value (get_or word i 0) → number_from base n (drop i word) ≡ Err NotDigits
  stops inside h = rw (drop-cons word i 0 inside) (no_digit base n _ _ (by (leb 16 (digit_value (get_or word i 0))) refl))
    where
      by : (t : Bool) → leb 16 (digit_value (get_or word i 0)) ≡ t → base ≤ digit_of (get_or word i 0)
      by true e = omega (arith, other-is (get_or word i 0) (leb-true _ _ e))
      by false e = omega (arith, digit_is (get_or word i 0) (leb-false _ _ e))

  pub passes : i < length word → digit_value (get_or word i 0) < base → 2 ^ 64 ≤ n * base + digit_value (get_or word i 0) → number_from base n (drop i word) ≡ Err TooLarge
  passes inside h l =
      let is = digit_is (get_or word i 0) (omega arith) in
      rw (drop-cons word i 0 inside) (one-too-large base n _ _ (rw is h) (rw is l))

  pub goes_on : i < length word → digit_value (get_or word i 0) < base → n * base + digit_value (get_or word i 0) < 2 ^ 64
      → number_from base n (drop i word) ≡ number_from base (n * base + digit_value (get_or word i 0)) (drop (i + 1) word)
  goes_on inside h l =
      let is = digit_is (get_or word i 0) (omega arith) in
      rw (drop-cons word i 0 inside, add-one) (one-digit base n _ _ (rw is h) (rw is l) ∙ rw is refl)

  pub ends : length word ≤ i → number_from base n (drop i word) ≡ Ok n
  unfolding number_from
  ends over = rw (drop_of_length-le word over)

pub starts : (word : List ℕ) (base : ℕ) → 0 < length word → number_in base word ≡ number_from base 0 word
unfolding number_in
starts [] base h = absurd (omega arith)
starts (b ∷ bs) base h = refl

pub none : (word : List ℕ) (base : ℕ) → length word ≡ 0 → number_in base word ≡ Err NotDigits
unfolding number_in
none [] base e = refl
none (b ∷ bs) base e = absurd (omega arith)

pub ruleset steps = (stops, passes, goes_on, ends, starts, none)
