-- The time that a word stands for has two numbers of 64 bits, whatever time it counts from: so has each number that is read, decimals
-- make less than a second, and a sum of 2^128 raw units or more is no time. Assumes nothing.
use Prim.Native.Nat.{ℕ, ◌+◌, ◌-◌, ◌*◌, ◌^◌, ◌<◌}
use mathlib.Core.Bool.{Bool, true, false, cond}
use mathlib.Core.List.{List}
use mathlib.Core.Path.{◌≡◌, refl}
use native.Mathlib.Omega.{arith}
use borrow.Author.Tests.{ltb-true, ltb-false}
use lib.Dec.{ltb}
use lib.ListN.{length, drop}
use lib.Pow.{shr_lt}
use Rattle.time.specs.declared.Time.{Time}
use Rattle.time.specs.declared.Duration.{Duration}
use Rattle.std.specs.Prelude.{Option, Some, None, Result, Ok, Err}
use Rattle.time.specs.Raw.{raw, span, instant, duration, micros, plus, added}
use Rattle.lists.proofs.Bools.{either}
use Rattle.words.specs.declared.reason.Reason.{Reason}
use Rattle.words.specs.declared.reason.Reason.TheVariants.{TooManyDecimals}
use Rattle.digits.specs.Digits.{number_in}
use Rattle.digits.specs.declared.NoNumber.{NoNumber}
use Rattle.digits.specs.declared.NoNumber.TheVariants as number
use Rattle.digits.proofs.Laws.{number-64}
use Rattle.moments.specs.Moments.{judged, part_of, has, head_of, tail_of, seconds, exactly, in_micros, with_decimals, length_of, is_relative, in_range, at_length, after_length, moment_of}
use Rattle.moments.proofs.Laws.{micros-split, scaled-by, part-below}

-- ---- numbers of 64 bits

data PartIn : Result ℕ Reason → Type 0 where
  is : (n : ℕ) → n < 2 ^ 64 → PartIn (Ok n)
  wrong : {why : Reason} → PartIn (Err why)

data LengthIn : Result Duration Reason → Type 0 where
  is : (d : Duration) → d.0 < 2 ^ 64 → d.1 < 2 ^ 64 → LengthIn (Ok d)
  wrong : {why : Reason} → LengthIn (Err why)

pub data MomentIn : Result Time Reason → Type 0 where
  at : (t : Time) → t.0 < 2 ^ 64 → t.1 < 2 ^ 64 → MomentIn (Ok t)
  wrong : {why : Reason} → MomentIn (Err why)

-- ---- a length

part_in : (bs : List ℕ) → PartIn (part_of bs)
part_in bs = by (number_in 10 bs) refl
  where
    by : (n : Result ℕ NoNumber) → number_in 10 bs ≡ n → PartIn (judged n)
    by (Ok n) e = is n (number-64 10 n bs e)
    by (Err number.TooLarge) e = wrong
    by (Err number.NotDigits) e = wrong

seconds-in : {s : Result ℕ Reason} → PartIn s → LengthIn (seconds s)
seconds-in (is s h) = is (record { 0 = s; 1 = 0 }) h (omega arith)
seconds-in wrong = wrong

exactly-in : {s f : Result ℕ Reason} → PartIn s → PartIn f → LengthIn (exactly s f)
exactly-in (is s h) (is f k) = is _ h k
exactly-in (is s h) wrong = wrong
exactly-in wrong k = wrong

micros-in : (s n : ℕ) → s < 2 ^ 64 → n < 1000000 → LengthIn (Ok (micros (s * 1000000 + n)))
unfolding micros duration
micros-in s n h k = rw (← micros-split s n k) (is (record { 0 = s; 1 = (micros n).1 }) h (omega arith))

decimals-in : {s : Result ℕ Reason} (ds : List ℕ) → PartIn s → LengthIn (with_decimals s ds)
decimals-in ds wrong = wrong
decimals-in ds (is s h) = by (ltb 6 (length ds)) (part_of ds) refl refl
  where
    by : (t : Bool) (p : Result ℕ Reason) → ltb 6 (length ds) ≡ t → part_of ds ≡ p
        → LengthIn (cond t (Err TooManyDecimals) (in_micros s (length ds) p))
    by true p e d = wrong
    by false (Ok n) e d =
        micros-in s (n * 10 ^ (6 - length ds)) h (scaled-by n (length ds) _ (ltb-false 6 (length ds) e) (part-below n ds d) refl)
    by false (Err why) e d = wrong

length-in : (word : List ℕ) → LengthIn (length_of word)
unfolding length_of
length-in word =
    either LengthIn (has 58 word) (exactly-in (part_in (head_of 58 word)) (part_in (tail_of 58 word)))
    (either LengthIn (has 46 word) (decimals-in (tail_of 46 word) (part_in (head_of 46 word))) (seconds-in (part_in word)))

-- ---- a time

sum-in : (t : Time) (d : Duration) → MomentIn (in_range (added t d))
unfolding added plus instant
sum-in t d = by (ltb (raw t + span d) (2 ^ 128)) refl
  where
    by : (b : Bool) → ltb (raw t + span d) (2 ^ 128) ≡ b → MomentIn (in_range (cond b (Some (plus t d)) None))
    by true e = let small = ltb-true (raw t + span d) (2 ^ 128) e in at (plus t d) (shr_lt 64 64 small) (omega arith)
    by false e = wrong

at_in : {l : Result Duration Reason} → LengthIn l → MomentIn (at_length l)
at_in (is d h k) = at _ h k
at_in wrong = wrong

after-in : (b : Option Time) (l : Result Duration Reason) → MomentIn (after_length b l)
after-in None l = wrong
after-in (Some t) (Ok d) = sum-in t d
after-in (Some t) (Err why) = wrong

pub moment-in : (b : Option Time) (word : List ℕ) → MomentIn (moment_of b word)
unfolding moment_of
moment-in b word = either MomentIn (is_relative word) (after-in b (length_of (drop 1 word))) (at_in (length-in word))
