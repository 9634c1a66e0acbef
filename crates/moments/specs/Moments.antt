-- A time as a history writes it: seconds, whole or with one to six decimals, or exactly, as SECONDS:FRACTION with the fraction in
-- raw units; and after a `+` any of these as the length since the time of the line before.
-- Assumes nothing.
use Rattle.std.specs.Prelude.{ℕ, suc, ◌+◌, ◌-◌, ◌*◌, ◌/◌, ◌^◌, List, [], ◌∷◌, Bool, false, cond, ◌&&◌, Option, Some, None, Result, Ok, Err, length, take, drop, ltb, eqb}
use Rattle.byte_search.specs.Search.{index_of}
use Rattle.time.specs.Raw.{micros, micros_per_second, added}
use Rattle.time.specs.declared.Time.{Time}
use Rattle.time.specs.declared.Duration.{Duration}
use Rattle.words.specs.declared.reason.Reason.{Reason}
use Rattle.words.specs.declared.reason.Reason.TheVariants.{NoTime, TooManyDecimals, NoTimeBefore, PastTheLastInstant}
use Rattle.words.specs.declared.reason.Reason.TheVariants as reason
use Rattle.digits.specs.Digits.{number_in}
use Rattle.digits.specs.declared.NoNumber.{NoNumber}
use Rattle.digits.specs.declared.NoNumber.TheVariants as number

-- ---- the parts of a word

-- a number, or why it is none
abbrev pub judged : Result ℕ NoNumber → Result ℕ Reason
judged (Ok n) = Ok n
judged (Err number.TooLarge) = Err reason.TooLarge
judged (Err number.NotDigits) = Err NoTime

-- a part that is a decimal number
abbrev pub part_of : List ℕ → Result ℕ Reason
part_of bs = judged (number_in 10 bs)

-- whether a word has a byte, what stands before the first such byte, and what after it
abbrev pub has : ℕ → List ℕ → Bool
has b word = ltb (index_of b word) (length word)

abbrev pub head_of : ℕ → List ℕ → List ℕ
head_of b word = take (index_of b word) word

abbrev pub tail_of : ℕ → List ℕ → List ℕ
tail_of b word = drop (suc (index_of b word)) word

-- ---- a length of time

-- whole seconds
abbrev pub seconds : Result ℕ Reason → Result Duration Reason
seconds (Ok s) = Ok (record { 0 = s; 1 = 0 })
seconds (Err r) = Err r

-- seconds and a fraction, exactly
abbrev pub exactly : Result ℕ Reason → Result ℕ Reason → Result Duration Reason
exactly (Ok s) (Ok f) = Ok (record { 0 = s; 1 = f })
exactly (Ok s) (Err r) = Err r
exactly (Err r) f = Err r

-- seconds and so many decimals, as microseconds
abbrev pub in_micros : ℕ → ℕ → Result ℕ Reason → Result Duration Reason
in_micros s count (Ok n) = Ok (micros (s * micros_per_second + n * 10 ^ (6 - count)))
in_micros s count (Err r) = Err r

-- seconds and decimals, of which there are at most six
abbrev pub with_decimals : Result ℕ Reason → List ℕ → Result Duration Reason
with_decimals (Ok s) ds = cond (ltb 6 (length ds)) (Err TooManyDecimals) (in_micros s (length ds) (part_of ds))
with_decimals (Err r) ds = Err r

-- a word with a ':' is exact, one with a '.' has decimals, and any other is whole seconds
unfoldable pub length_of : List ℕ → Result Duration Reason
length_of word =
    cond (has 58 word) (exactly (part_of (head_of 58 word)) (part_of (tail_of 58 word)))
    (cond (has 46 word) (with_decimals (part_of (head_of 46 word)) (tail_of 46 word)) (seconds (part_of word)))

-- ---- a time

-- whether a word starts with a '+'
abbrev pub is_relative : List ℕ → Bool
is_relative [] = false
is_relative (b ∷ bs) = eqb b 43

-- an instant is a length from the first one
abbrev pub at_length : Result Duration Reason → Result Time Reason
at_length (Ok d) = Ok (record { 0 = d.0; 1 = d.1 })
at_length (Err r) = Err r

abbrev pub in_range : Option Time → Result Time Reason
in_range (Some t) = Ok t
in_range None = Err PastTheLastInstant

-- a length after the time before, of which there has to be one
abbrev pub after_length : Option Time → Result Duration Reason → Result Time Reason
after_length None l = Err NoTimeBefore
after_length (Some t) (Ok d) = in_range (added t d)
after_length (Some t) (Err r) = Err r

-- the time that a word stands for, after a line with a time or without one
unfoldable pub moment_of : Option Time → List ℕ → Result Time Reason
moment_of before word = cond (is_relative word) (after_length before (length_of (drop 1 word))) (at_length (length_of word))

-- ---- the other way round

-- one microsecond in raw units
abbrev pub microsecond : ℕ
microsecond = 18446744073709

-- the microseconds below one second whose fraction this is, if any: no other number than this quotient can be it
unfoldable pub exact_of : ℕ → Option ℕ
exact_of fraction =
    cond (ltb (fraction / microsecond) micros_per_second && eqb (micros (fraction / microsecond)).1 fraction) (Some (fraction / microsecond)) None
