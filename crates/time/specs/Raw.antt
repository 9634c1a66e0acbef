-- Instants and lengths of time as natural numbers of raw units, 2^-64 s. Document 01, "Time".
-- Assumes nothing.
use Rattle.std.specs.Prelude.{ℕ, ◌+◌, ◌-◌, ◌*◌, ◌/◌, ◌%◌, ◌^◌, ◌<◌, cond, ltb, Option, Some, None}
use Rattle.time.specs.declared.Time.{Time}
use Rattle.time.specs.declared.Duration.{Duration}

-- An instant is 64-bit whole seconds and a 64-bit fraction; so is a length of time.
unfoldable pub raw : Time → ℕ
raw t = t.0 * 2 ^ 64 + t.1

unfoldable pub span : Duration → ℕ
span d = d.0 * 2 ^ 64 + d.1

unfoldable pub instant : ℕ → Time
instant n = record { 0 = n / 2 ^ 64; 1 = n % 2 ^ 64 }

unfoldable pub duration : ℕ → Duration
duration n = record { 0 = n / 2 ^ 64; 1 = n % 2 ^ 64 }

abbrev pub micros_per_second : ℕ
micros_per_second = 1000000

-- N microseconds are floor(N × 2^64 / 1,000,000) raw.
unfoldable pub micros : ℕ → Duration
micros n = duration (n * 2 ^ 64 / micros_per_second)

-- the later of two instants
unfoldable pub later : Time → Time → Time
later a b = cond (ltb (raw a) (raw b)) b a

-- an instant plus a length of time
unfoldable pub plus : Time → Duration → Time
plus t d = instant (raw t + span d)

-- the same where it has 128 bits, or none
unfoldable pub added : Time → Duration → Option Time
added t d = cond (ltb (raw t + span d) (2 ^ 128)) (Some (plus t d)) None

-- Whole seconds 2^64-1 are refused; before them every wait below a second has its sum.
abbrev pub BeforeLastSecond : Time → Type 0
BeforeLastSecond t = t.0 < 2 ^ 64 - 1

-- now plus N microseconds
unfoldable pub after : Time → ℕ → Time
after now n = plus now (micros n)

-- the time from an instant to a later one, 0 if negative
unfoldable pub since : Time → Time → Duration
since now from = duration (raw now - raw from)
