-- Numbers as a line writes them: a row of digits, the highest first. A number is below 2^64.
-- Assumes nothing.
use Rattle.std.specs.Prelude.{ℕ, ◌+◌, ◌-◌, ◌*◌, ◌^◌, List, [], ◌∷◌, Bool, cond, ◌&&◌, Result, Ok, Err, length, ltb, leb, eqb}
use Rattle.digits.specs.declared.NoNumber.{NoNumber}
use Rattle.digits.specs.declared.NoNumber.TheVariants.{TooLarge, NotDigits}

-- whether a byte is one of a row of letters, both ends included
abbrev pub within : ℕ → ℕ → ℕ → Bool
within first last b = leb first b && leb b last

-- the value of '0' to '9', 'A' to 'F' and 'a' to 'f', and 16 for any other byte
unfoldable pub digit_of : ℕ → ℕ
digit_of b = cond (within 48 57 b) (b - 48) (cond (within 65 70 b) (b - 55) (cond (within 97 102 b) (b - 87) 16))

-- the number that digits go on with after the number n: the first byte that is no digit, or passes 2^64, ends it
unfoldable pub number_from : ℕ → ℕ → List ℕ → Result ℕ NoNumber
number_from base n [] = Ok n
number_from base n (b ∷ bs) =
    cond (ltb (digit_of b) base) (cond (ltb (n * base + digit_of b) (2 ^ 64)) (number_from base (n * base + digit_of b) bs) (Err TooLarge)) (Err NotDigits)

-- the number of a row of digits, which has at least one
unfoldable pub number_in : ℕ → List ℕ → Result ℕ NoNumber
number_in base [] = Err NotDigits
number_in base (b ∷ bs) = number_from base 0 (b ∷ bs)

-- a hexadecimal number of exactly k digits
unfoldable pub hex_in : ℕ → List ℕ → Result ℕ NoNumber
hex_in k bs = cond (eqb (length bs) k) (number_in 16 bs) (Err NotDigits)
