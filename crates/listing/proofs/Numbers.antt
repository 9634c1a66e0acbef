-- What a number is read as has arguments in their types' ranges, and a request in range is read back from its number: its three parts
-- are. Assumes nothing.
use mathlib.Core.Path.{◌≡◌, ◌∙◌}
use mathlib.Core.Bool.{Bool, true, false}
use Prim.Native.Nat.{ℕ, ◌+◌, ◌*◌, ◌%◌, ◌^◌, ◌<◌}
use native.Mathlib.Omega.{arith}
use lib.Dec.{eqb}
use Rattle.lists.proofs.Bools.{either}
use Rattle.rows.specs.Rows.{flag_byte}
use Rattle.lent.specs.declared.Request.{Request}
use Rattle.lent.specs.declared.Request.TheVariants.{WriteRegister, Write8, Read8, Read16, Protect, Reset, PowerOff, Environment}
use Rattle.ledger.specs.Lists.{Numbers}
use Rattle.listing.specs.Calls.{kind_in, first_in, second_in, request_by, request_in, packed, word_of}

-- ---- in range

numbers-by : (kind first second : ℕ) → first < 2 ^ 16 → second < 2 ^ 8 → Numbers (request_by kind first second)
unfolding request_by
numbers-by kind first second h k =
    either Numbers (eqb kind 0) (h, k)
    (either Numbers (eqb kind 1) (h, k)
    (either Numbers (eqb kind 2) h
    (either Numbers (eqb kind 3) h
    (either Numbers (eqb kind 4) tt
    (either Numbers (eqb kind 5) tt
    (either Numbers (eqb kind 6) tt
    (omega arith)))))))

pub numbers-in : (what : ℕ) → Numbers (request_in what)
unfolding request_in
numbers-in what = numbers-by (kind_in what) (first_in what) (second_in what) (omega arith) (omega arith)

-- ---- back

module _ (kind first second : ℕ) (h : first < 2 ^ 16) (k : second < 2 ^ 8) where
  packed-in : request_in (packed kind first second) ≡ request_by kind first second
  unfolding request_in
  packed-in =
      let a : kind_in (packed kind first second) ≡ kind = omega arith in
      let b : first_in (packed kind first second) ≡ first = omega arith in
      let c : second_in (packed kind first second) ≡ second = omega arith in
      rw (a, b, c)

environment-back : (mode : ℕ) (modul oscillator : Bool) → mode % 2 ^ 8 ≡ mode
    → request_by 7 mode (flag_byte modul + 2 * flag_byte oscillator) ≡ Environment mode modul oscillator
unfolding request_by
environment-back mode true true e = rw e
environment-back mode true false e = rw e
environment-back mode false true e = rw e
environment-back mode false false e = rw e

flags-small : (modul oscillator : Bool) → flag_byte modul + 2 * flag_byte oscillator < 2 ^ 8
flags-small true true = omega arith
flags-small true false = omega arith
flags-small false true = omega arith
flags-small false false = omega arith

pub word_back : (q : Request) → Numbers q → request_in (word_of q) ≡ q
unfolding request_by
word_back (WriteRegister a v) h = packed-in 0 a v h.0 h.1
word_back (Write8 a v) h = packed-in 1 a v h.0 h.1
word_back (Read8 a) h = packed-in 2 a 0 h (omega arith)
word_back (Read16 a) h = packed-in 3 a 0 h (omega arith)
word_back Protect h = packed-in 4 0 0 (omega arith) (omega arith)
word_back Reset h = packed-in 5 0 0 (omega arith) (omega arith)
word_back PowerOff h = packed-in 6 0 0 (omega arith) (omega arith)
word_back (Environment mode modul oscillator) h =
    packed-in 7 mode (flag_byte modul + 2 * flag_byte oscillator) (omega arith) (flags-small modul oscillator)
    ∙ environment-back mode modul oscillator (omega arith)

pub ruleset numbers = (numbers-in)
