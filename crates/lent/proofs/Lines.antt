-- A list of checks that gives no refusal: the condition of its first line is false, and no later line is given. Checks after others count
-- where none of those is given. The number that is given is that of a refusal. Assumes nothing.
use mathlib.Core.Path.{◌≡◌, refl}
use mathlib.Core.Logic.{◌≢◌}
use mathlib.Core.Bool.{Bool, true, false, cond}
use mathlib.Core.List.{List, [], ◌∷◌, ◌++◌}
use Prim.Native.Nat.{ℕ, zero, suc, ◌≤◌}
use native.Mathlib.Omega.{arith}
use Rattle.refusal.specs.declared.Refusal.{Refusal}
use Rattle.refusal.proofs.Outcomes.{number-some}
use Rattle.refusal.specs.Refusal.{number, numbered}
use Rattle.lent.specs.Memory.{Check, is_refusal, first_given}

pub line : (n : ℕ) (given : Bool) (later : ℕ) → cond given (suc n) later ≡ 0 → (given ≡ false) × (later ≡ 0)
line n true later e = absurd (omega arith)
line n false later e = (refl, e)

-- the place line
pub placed-line : (place later : ℕ) → cond (is_refusal place) place later ≡ 0 → (place ≡ 0) × (later ≡ 0)
placed-line zero later e = (refl, e)
placed-line (suc n) later e = absurd (omega (arith, e))

pub placed_given : (r : Refusal) (later : ℕ) → cond (is_refusal (number r)) (number r) later ≡ number r
placed_given r later = by (number r) (number-some r)
  where
    by : (n : ℕ) → 1 ≤ n → cond (is_refusal n) n later ≡ n
    by zero h = absurd (omega arith)
    by (suc n) h = refl

-- every check has a number of its own, not that of no refusal
abbrev pub Numbered : List Check → Type 0
Numbered [] = Unit {0}
Numbered (c ∷ cs) = (1 ≤ c.number) × Numbered cs

pub given-first : (xs ys : List Check) (n : ℕ) → n ≡ first_given xs → n ≢ 0 → n ≡ first_given (xs ++ ys)
given-first [] ys n e h = absurd (h e)
given-first (x ∷ xs) ys n e h = by x.given (λ d. given-first xs ys n d h) e
  where
    by : (b : Bool) → (n ≡ first_given xs → n ≡ first_given (xs ++ ys)) → n ≡ cond b x.number (first_given xs)
        → n ≡ cond b x.number (first_given (xs ++ ys))
    by true later e = e
    by false later e = later e

pub given-after : (xs ys : List Check) → Numbered xs → first_given xs ≡ 0 → first_given (xs ++ ys) ≡ first_given ys
given-after [] ys p e = refl
given-after (x ∷ xs) ys p e = by x.given (given-after xs ys p.1) e
  where
    by : (b : Bool) → (first_given xs ≡ 0 → first_given (xs ++ ys) ≡ first_given ys) → cond b x.number (first_given xs) ≡ 0
        → cond b x.number (first_given (xs ++ ys)) ≡ first_given ys
    by true later e = absurd (omega (arith, e, p.0))
    by false later e = later e

-- each check that is given has the number of a refusal
abbrev pub Named : List Check → Type 0
Named [] = Unit {0}
Named (c ∷ cs) = (c.given ≡ true → number (numbered c.number) ≡ c.number) × Named cs

pub named-first : (cs : List Check) → Named cs → first_given cs ≢ 0 → number (numbered (first_given cs)) ≡ first_given cs
named-first [] p h = absurd (h refl)
named-first (c ∷ cs) p h = by c.given p.0 (named-first cs p.1) h
  where
    by : (b : Bool) → (b ≡ true → number (numbered c.number) ≡ c.number) → (first_given cs ≢ 0 → number (numbered (first_given cs)) ≡ first_given cs) → cond b c.number (first_given cs) ≢ 0
        → number (numbered (cond b c.number (first_given cs))) ≡ cond b c.number (first_given cs)
    by true here later h = here refl
    by false here later h = later h
