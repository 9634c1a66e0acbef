-- Decimals as microseconds, and a fraction of a second as microseconds. So many decimals make less than a second, so the seconds before
-- them stand by themselves; and the fraction of n microseconds is n microseconds' raw units and less than one more.
-- Assumes nothing.
use mathlib.Core.Path.{◌≡◌, refl, sym, ap, ◌∙◌}
use mathlib.Core.Bool.{Bool, true, false, cond, ◌&&◌}
use mathlib.Core.List.{List}
use Rattle.std.specs.Prelude.{Some, None, Result, Ok, Err}
use Rattle.words.specs.declared.reason.Reason.{Reason}
use Prim.Native.Nat.{ℕ, ◌+◌, ◌-◌, ◌*◌, ◌/◌, ◌%◌, ◌^◌, ◌≤◌, ◌<◌}
use native.Mathlib.Nat.{mul-lt-mul_of_pos_right, one-le-pow}
use native.Mathlib.Omega.{arith}
use lib.Dec.{ltb, eqb, lit<}
use lib.ListN.{length}
use lib.Pow.{pow-add}
use borrow.Author.Tests.{lt-ltb, eq-eqb, ltb-true, eqb-true}
use Rattle.time.specs.Raw.{micros}
use Rattle.time.specs.declared.Duration.{Duration}
use Rattle.time.proofs.Laws.{is-micros}
use Rattle.digits.specs.Digits.{number_in}
use Rattle.digits.specs.declared.NoNumber.{NoNumber}
use Rattle.digits.specs.declared.NoNumber.TheVariants as number
use Rattle.digits.proofs.Laws.{number-below}
use Rattle.moments.specs.Moments.{judged, part_of, in_micros, exact_of}

-- the fraction of microseconds below a second
below-second : (n : ℕ) → n < 1000000 → (micros n).1 ≡ n * 18446744073709 + n * 551616 / 1000000
below-second n h =
    let same : n % 1000000 ≡ n = omega arith in
    ap (λ (d : Duration). d.1) (sym (is-micros n (record { 0 = 0; 1 = n * 18446744073709 + n * 551616 / 1000000 }) (omega arith) (rw same) (omega arith)))

-- seconds and microseconds below a second are one number of microseconds
pub micros-split : (s n : ℕ) → n < 1000000 → ◌≡◌ {A = Duration} (record { 0 = s; 1 = (micros n).1 }) (micros (s * 1000000 + n))
micros-split s n h =
    let rest : (s * 1000000 + n) % 1000000 ≡ n = omega arith in
    is-micros (s * 1000000 + n) _ (omega arith) (rw rest (below-second n h)) (omega (arith, below-second n h))

-- a number of so many decimals, of six at most, is below a second
scaled : (n count : ℕ) → count ≤ 6 → n < 10 ^ count → n * 10 ^ (6 - count) < 1000000
scaled n count few h =
    let six : count + (6 - count) ≡ 6 = omega arith in
    let all : 10 ^ count * 10 ^ (6 - count) ≡ 1000000 = sym (pow-add 10 count (6 - count)) ∙ ap (λ (k : ℕ). 10 ^ k) six in
    rw all at (mul-lt-mul_of_pos_right h (one-le-pow (6 - count) 10 (lit< tt)))

pub scaled-by : (n count w : ℕ) → count ≤ 6 → n < 10 ^ count → w ≡ 10 ^ (6 - count) → n * w < 1000000
scaled-by n count w few h e = rw e (scaled n count few h)

pub is-in-micros : (s n count w : ℕ) (d : Duration) → count ≤ 6 → n < 10 ^ count → w ≡ 10 ^ (6 - count) → d ≡ micros (n * w) → ◌≡◌ {A = Result Duration Reason} (Ok (record { 0 = s; 1 = d.1 })) (in_micros s count (Ok n))
is-in-micros s n count w d few h e f = rw (f, e) (ap Ok (micros-split s (n * 10 ^ (6 - count)) (scaled n count few h)))

-- a part of so many digits
pub part-below : (n : ℕ) (bs : List ℕ) → part_of bs ≡ Ok n → n < 10 ^ length bs
part-below n bs = by (number_in 10 bs) refl
  where
    by : (r : Result ℕ NoNumber) → number_in 10 bs ≡ r → judged r ≡ Ok n → n < 10 ^ length bs
    by (Ok m) e j = let same : m ≡ n = cc in number-below 10 n bs (e ∙ ap Ok same)
    by (Err number.TooLarge) e j = let z : ◌≡◌ {A = ℕ} 0 1 = cc in omega arith
    by (Err number.NotDigits) e j = let z : ◌≡◌ {A = ℕ} 0 1 = cc in omega arith

-- a fraction is told as n microseconds if and only if it is their fraction
module _ (fraction n : ℕ) where
  pub exact-sound : exact_of fraction ≡ Some n → (n < 1000000) × ((micros n).1 ≡ fraction)
  unfolding exact_of
  exact-sound e = by (ltb (fraction / 18446744073709) 1000000) (eqb (micros (fraction / 18446744073709)).1 fraction) refl refl e
    where
      by :
          (p q : Bool)
          → ltb (fraction / 18446744073709) 1000000 ≡ p
          → eqb (micros (fraction / 18446744073709)).1 fraction ≡ q
          → cond (p && q) (Some (fraction / 18446744073709)) None ≡ Some n
          → (n < 1000000) × ((micros n).1 ≡ fraction)
      by true true h k e = let same : fraction / 18446744073709 ≡ n = cc in (rw same at (ltb-true (fraction / 18446744073709) 1000000 h), rw same at (eqb-true (micros (fraction / 18446744073709)).1 fraction k))
      by true false h k e = let z : ◌≡◌ {A = ℕ} 0 1 = cc in absurd (omega arith)
      by false q h k e = let z : ◌≡◌ {A = ℕ} 0 1 = cc in absurd (omega arith)

  pub exact-complete : n < 1000000 → (micros n).1 ≡ fraction → exact_of fraction ≡ Some n
  unfolding exact_of
  exact-complete h e =
      let quotient : fraction / 18446744073709 ≡ n = omega (arith, below-second n h) in
      rw (quotient, lt-ltb n 1000000 h, eq-eqb (micros n).1 fraction e)
