-- What names stand for is in range: bits that are named once each make a byte, since each is one that the byte has not yet; each
-- register's address has 16 bits, and each mode's number 8. Assumes nothing.
use Rattle.std.proofs.Common.{◌≡◌, ℕ, ◌+◌, ◌^◌, ◌<◌, Bool, true, false, cond, List, [], ◌∷◌, Option, Some, None, Result, Ok, Err, refl, sym, eqb, arith}
use Rattle.std.specs.List.{slice_split}
use Rattle.control.specs.Bits.{has}
use Rattle.words.specs.Text.{spells, named}
use Rattle.words.specs.declared.names.NoBits.{NoBits}
use Rattle.words.specs.declared.names.NoBits.TheVariants.{Twice}
use Rattle.words.specs.Names.{registers, register_named, modes, bit_named}
use Rattle.words.specs.Values.{with_bit, go_on, bits_from, bits_named}
use Rattle.words.proofs.Sums.{bit-within}

-- ---- bits by their names

-- a bit more leaves a byte a byte
more-below : (register sum more : ℕ) (part : List ℕ) → sum < 256 → with_bit sum (bit_named register part) ≡ Ok more → more < 256
more-below register sum more part h = by (bit_named register part) refl
  where
    added : (bit : ℕ) → bit_named register part ≡ Some bit → (t : Bool) → has sum bit ≡ t → ◌≡◌ {A = Result ℕ NoBits} (cond t (Err Twice) (Ok (sum + bit))) (Ok more) → more < 256
    added bit is true unset e = let z : ◌≡◌ {A = ℕ} 0 1 = cc in absurd (omega arith)
    added bit is false unset e = let same : sum + bit ≡ more = cc in omega (arith, bit-within register part bit (sym is) sum h unset)

    by : (o : Option ℕ) → bit_named register part ≡ o → with_bit sum o ≡ Ok more → more < 256
    by None is e = let z : ◌≡◌ {A = ℕ} 0 1 = cc in absurd (omega arith)
    by (Some bit) is e = added bit is (has sum bit) refl e

from-below : (register sum v : ℕ) (parts : List (List ℕ)) → sum < 256 → bits_from register sum parts ≡ Ok v → v < 256
unfolding bits_from
from-below register sum v [] h e = let same : sum ≡ v = cc in omega arith
from-below register sum v (part ∷ parts) h e = by (with_bit sum (bit_named register part)) refl e (λ more k. from-below register more v parts k)
  where
    by : (r : Result ℕ NoBits) → with_bit sum (bit_named register part) ≡ r → go_on r (λ more. bits_from register more parts) ≡ Ok v
        → ((more : ℕ) → more < 256 → bits_from register more parts ≡ Ok v → v < 256) → v < 256
    by (Ok more) is e rest = rest more (more-below register sum more part h is) e
    by (Err why) is e rest = let z : ◌≡◌ {A = ℕ} 0 1 = cc in absurd (omega arith)

pub bits_below : (register : ℕ) (bs : List ℕ) (v : ℕ) → bits_named register bs ≡ Ok v → v < 256
unfolding bits_named
bits_below register bs v e = from-below register 0 v (slice_split (λ b. eqb b 43) bs) (omega arith) e

-- ---- numbers by their names

Each : ℕ → List (List ℕ × ℕ) → Type 0
Each bound [] = Unit {0}
Each bound (e ∷ es) = (e.1 < bound) × Each bound es

named-below : (bound : ℕ) (es : List (List ℕ × ℕ)) (bs : List ℕ) (n : ℕ) → Each bound es → named es bs ≡ Some n → n < bound
unfolding Each
named-below bound [] bs n all e = let z : ◌≡◌ {A = ℕ} 0 1 = cc in absurd (omega arith)
named-below bound (x ∷ es) bs n all e = by (spells x.0 bs) e (named-below bound es bs n all.1)
  where
    by : (t : Bool) → cond t (Some x.1) (named es bs) ≡ Some n → (named es bs ≡ Some n → n < bound) → n < bound
    by true e rest = let same : x.1 ≡ n = cc in rw (← same) all.0
    by false e rest = rest e

pub register-below : (bs : List ℕ) (n : ℕ) → register_named bs ≡ Some n → n < 2 ^ 16
unfolding Each
register-below bs n e = named-below (2 ^ 16) registers bs n (omega arith, (omega arith, (omega arith, (omega arith, (omega arith, tt))))) e

pub mode-below : (bs : List ℕ) (n : ℕ) → named modes bs ≡ Some n → n < 2 ^ 8
unfolding Each
mode-below bs n e = named-below (2 ^ 8) modes bs n (omega arith, (omega arith, (omega arith, (omega arith, (omega arith, (omega arith, tt)))))) e
