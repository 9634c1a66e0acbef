-- Calls as numbers: a list has three for each call, what, seconds and fraction, with what = kind × 2^24 + first × 2^8 + second. Every
-- number is read as some call, and every call is written as a number that is read as it.
-- Assumes nothing.
use Rattle.std.specs.Prelude.{ℕ, ◌+◌, ◌*◌, ◌/◌, ◌%◌, ◌^◌, cond, List, [], eqb}
use Rattle.lists.specs.Lists.{at}
use Rattle.rows.specs.Rows.{flag_byte, flag_of}
use Rattle.lent.specs.declared.Request.{Request}
use Rattle.lent.specs.declared.Request.TheVariants.{WriteRegister, Write8, Read8, Read16, Protect, Reset, PowerOff, Environment}
use Rattle.ledger.specs.Lists.{Asked}
use Rattle.lent.specs.declared.Asking.{Asking}

-- ---- reading

abbrev pub kind_in : ℕ → ℕ
kind_in what = what / 2 ^ 24

abbrev pub first_in : ℕ → ℕ
first_in what = what / 2 ^ 8 % 2 ^ 16

abbrev pub second_in : ℕ → ℕ
second_in what = what % 2 ^ 8

-- The kinds from 0 on; every kind past them is a change of environment: the mode, and bits 0 and 1 for module and oscillator.
unfoldable pub request_by : ℕ → ℕ → ℕ → Request
request_by kind first second =
    cond (eqb kind 0) (WriteRegister first second)
    (cond (eqb kind 1) (Write8 first second)
    (cond (eqb kind 2) (Read8 first)
    (cond (eqb kind 3) (Read16 first)
    (cond (eqb kind 4) Protect
    (cond (eqb kind 5) Reset
    (cond (eqb kind 6) PowerOff
    (Environment (first % 2 ^ 8) (flag_of (second % 2)) (flag_of (second / 2 % 2)))))))))

unfoldable pub request_in : ℕ → Request
request_in what = request_by (kind_in what) (first_in what) (second_in what)

-- the i-th call of a list, lent some event words
abbrev pub call_at : List ℕ → ℕ → List ℕ → Asked
call_at calls i lent =
    record {
      request = request_in (at calls (3 * i));
      time = record { 0 = at calls (3 * i + 1); 1 = at calls (3 * i + 2) };
      lent = lent;
    }

-- what a call asks for, and when, whatever event words it is lent
abbrev pub asking : Asked → Asking
asking q = record { request = q.request; time = q.time }

abbrev pub asking_at : List ℕ → ℕ → Asking
asking_at calls i = asking (call_at calls i [])

-- ---- writing

abbrev pub packed : ℕ → ℕ → ℕ → ℕ
packed kind first second = kind * 2 ^ 24 + first * 2 ^ 8 + second

abbrev pub word_of : Request → ℕ
word_of (WriteRegister a v) = packed 0 a v
word_of (Write8 a v) = packed 1 a v
word_of (Read8 a) = packed 2 a 0
word_of (Read16 a) = packed 3 a 0
word_of Protect = packed 4 0 0
word_of Reset = packed 5 0 0
word_of PowerOff = packed 6 0 0
word_of (Environment mode modul oscillator) = packed 7 mode (flag_byte modul + 2 * flag_byte oscillator)
