-- The value of a register as names of its bits, joined by `+`. It is their sum, and none may be there twice.
-- Assumes nothing.
use Rattle.std.specs.Prelude.{ℕ, ◌+◌, cond, List, [], ◌∷◌, Option, Some, None, Result, Ok, Err, eqb}
use Rattle.std.specs.List.{slice_split}
use Rattle.control.specs.Bits.{has}
use Rattle.words.specs.declared.names.NoBits.{NoBits}
use Rattle.words.specs.declared.names.NoBits.TheVariants.{Twice, NoName}
use Rattle.words.specs.Names.{bit_named}

-- a bit more, which is named and not there yet
abbrev pub with_bit : ℕ → Option ℕ → Result ℕ NoBits
with_bit sum None = Err NoName
with_bit sum (Some bit) = cond (has sum bit) (Err Twice) (Ok (sum + bit))

-- what comes after a bit more
abbrev pub go_on : Result ℕ NoBits → (ℕ → Result ℕ NoBits) → Result ℕ NoBits
go_on (Ok sum) rest = rest sum
go_on (Err why) rest = Err why

-- the bits named so far with those of the parts left: from left to right a part that names no bit, or a bit again, ends it
unfoldable pub bits_from : ℕ → ℕ → List (List ℕ) → Result ℕ NoBits
bits_from register sum [] = Ok sum
bits_from register sum (part ∷ parts) = go_on (with_bit sum (bit_named register part)) (λ more. bits_from register more parts)

-- of a word, whose parts are split at each `+`
unfoldable pub bits_named : ℕ → List ℕ → Result ℕ NoBits
bits_named register bs = bits_from register 0 (slice_split (λ b. eqb b 43) bs)
