-- The value of names of bits, part by part, and why it stays below 256: a bit that a byte has not is added within the byte.
-- Assumes nothing.
use Rattle.std.proofs.Common.{◌≡◌, ℕ, ◌+◌, ◌/◌, ◌%◌, ◌<◌, ◌≤◌, Bool, true, false, cond, List, [], ◌∷◌, Some, Ok, Err, length, get_or, drop, sym, ◌∙◌, ap, eqb, arith}
use Rattle.std.proofs.lemmas.List.{at_drop_more, at_drop_all}
use borrow.Author.Tests.{eqb-false}
use Rattle.control.specs.Bits.{has, FLMCR1, FLMCR2, FLPWCR, EBR1, FENR}
use Rattle.words.specs.Text.{spells, named}
use Rattle.words.specs.declared.names.NoBits.{NoBits}
use Rattle.words.specs.Names.{bits_of, bit_named}
use Rattle.words.specs.Values.{with_bit, go_on, bits_from}

-- a bit that a byte has not, added to it, makes a byte
Within : ℕ → Type 0
Within bit = (0 < bit) × ((sum : ℕ) → sum < 256 → has sum bit ≡ false → sum + bit < 256)

Each : List (List ℕ × ℕ) → Type 0
Each [] = Unit {0}
Each (e ∷ es) = Within e.1 × Each es

named-within : (es : List (List ℕ × ℕ)) (bs : List ℕ) (bit : ℕ) → Each es → Some bit ≡ named es bs → Within bit
unfolding Each
named-within [] bs bit all e = let z : ◌≡◌ {A = ℕ} 0 1 = cc in absurd (omega arith)
named-within (n ∷ es) bs bit all e = by (spells n.0 bs) e (named-within es bs bit all.1)
  where
    by : (t : Bool) → Some bit ≡ cond t (Some n.1) (named es bs) → (Some bit ≡ named es bs → Within bit) → Within bit
    by true e rest = let same : n.1 ≡ bit = cc in rw same at all.0
    by false e rest = rest e

within-1 : Within 1
unfolding Within
within-1 = (omega arith, λ sum h unset. omega (arith, eqb-false (sum / 1 % 2) 1 unset))

within-2 : Within 2
unfolding Within
within-2 = (omega arith, λ sum h unset. omega (arith, eqb-false (sum / 2 % 2) 1 unset))

within-4 : Within 4
unfolding Within
within-4 = (omega arith, λ sum h unset. omega (arith, eqb-false (sum / 4 % 2) 1 unset))

within-8 : Within 8
unfolding Within
within-8 = (omega arith, λ sum h unset. omega (arith, eqb-false (sum / 8 % 2) 1 unset))

within-16 : Within 16
unfolding Within
within-16 = (omega arith, λ sum h unset. omega (arith, eqb-false (sum / 16 % 2) 1 unset))

within-32 : Within 32
unfolding Within
within-32 = (omega arith, λ sum h unset. omega (arith, eqb-false (sum / 32 % 2) 1 unset))

within_64 : Within 64
unfolding Within
within_64 = (omega arith, λ sum h unset. omega (arith, eqb-false (sum / 64 % 2) 1 unset))

within-128 : Within 128
unfolding Within
within-128 = (omega arith, λ sum h unset. omega (arith, eqb-false (sum / 128 % 2) 1 unset))

if-each : (t : Bool) (es os : List (List ℕ × ℕ)) → Each es → Each os → Each (cond t es os)
if-each true es os ha hb = ha
if-each false es os ha hb = hb

each-bit : (register : ℕ) → Each (bits_of register)
unfolding Each
each-bit register =
    if-each (eqb register FLMCR1) _ _ (within_64, (within-32, (within-16, (within-8, (within-4, (within-2, (within-1, tt)))))))
    (if-each (eqb register FLMCR2) _ _ (within-128, tt)
    (if-each (eqb register FLPWCR) _ _ (within-128, tt)
    (if-each (eqb register EBR1) _ _ (within-1, (within-2, (within-4, (within-8, (within-16, (within-32, tt))))))
    (if-each (eqb register FENR) _ _ (within-128, tt) tt))))

module _ (register : ℕ) (bs : List ℕ) (bit : ℕ) (e : Some bit ≡ bit_named register bs) where
  pub bit-some : 0 < bit
  unfolding bit_named Within
  bit-some = (named-within (bits_of register) bs bit (each-bit register) e).0

  pub bit-within : (sum : ℕ) → sum < 256 → has sum bit ≡ false → sum + bit < 256
  unfolding bit_named Within
  bit-within = (named-within (bits_of register) bs bit (each-bit register) e).1

-- How a value goes on with the n-th of some parts.
module _ (register sum n : ℕ) (part : List ℕ) (parts : List (List ℕ)) (is : (n < length parts) × (part ≡ get_or parts n part)) where
  turn : bits_from register sum (drop n parts) ≡ go_on (with_bit sum (bit_named register part)) (λ more. bits_from register more (drop (n + 1) parts))
  unfolding bits_from
  turn = at_drop_more (bits_from register sum) parts n part is.0 ∙ ap (λ (p : List ℕ). go_on (with_bit sum (bit_named register p)) (λ more. bits_from register more (drop (n + 1) parts))) (sym is.1)

  pub ended : (why : NoBits) → Err why ≡ with_bit sum (bit_named register part) → bits_from register sum (drop n parts) ≡ Err why
  ended why e = rw (turn, sym e)

  pub went_on : (more : ℕ) → Ok more ≡ with_bit sum (bit_named register part) → bits_from register sum (drop n parts) ≡ bits_from register more (drop (n + 1) parts)
  went_on more e = rw (turn, sym e)

pub sum_all : (register sum n : ℕ) (parts : List (List ℕ)) → length parts ≤ n → bits_from register sum (drop n parts) ≡ Ok sum
unfolding bits_from
sum_all register sum n parts over = at_drop_all (bits_from register sum) parts n over

pub ruleset bits = (bit-some, bit-within)
