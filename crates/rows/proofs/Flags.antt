-- A flag as a byte, and back: it reads back, a byte that is a flag is written as it was read, and what is written is a flag's byte.
-- Assumes nothing.
use Rattle.std.proofs.Common.{◌≡◌, refl, ℕ, zero, suc, ◌<◌, Bool, true, false, arith}
use borrow.Author.Tests.{leb-true}
use lib.Dec.{lit<}
use Rattle.rows.specs.Rows.{flag_byte, flag_of, flag_known}

pub flag-fits : (b : Bool) → flag_byte b < 256
flag-fits true = lit< tt
flag-fits false = lit< tt

pub flag-back : (b : Bool) → flag_of (flag_byte b) ≡ b
flag-back true = refl
flag-back false = refl

pub flag-known : (b : ℕ) → flag_known b ≡ true → flag_byte (flag_of b) ≡ b
flag-known zero h = refl
flag-known (suc zero) h = refl
flag-known (suc (suc b)) h = absurd (omega (arith, leb-true (suc (suc b)) 1 h))

pub flag-told : (b : Bool) → flag_known (flag_byte b) ≡ true
flag-told true = refl
flag-told false = refl
