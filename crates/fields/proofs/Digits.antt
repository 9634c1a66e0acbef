-- A hexadecimal number of so many digits is below that power of 16. Assumes nothing.
use Rattle.std.proofs.Common.{◌≡◌, ℕ, ◌^◌, ◌<◌, List, Ok, sym}
use Rattle.digits.specs.Digits.{hex_in}
use Rattle.digits.proofs.Laws.{hex-below}

pub hex : (k : ℕ) (bs : List ℕ) (n : ℕ) → Ok n ≡ hex_in k bs → n < 16 ^ k
hex k bs n e = hex-below k bs n (sym e)
