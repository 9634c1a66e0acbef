-- No refusal has the number 0, each is the one with its number, and a `?` passes it on. Assumes nothing.
use mathlib.Core.Path.{◌≡◌, refl, ap, ◌∙◌}
use Prim.Native.Nat.{◌≤◌}
use native.Mathlib.Omega.{arith}
use Rattle.std.specs.Prelude.{Result, Err, IsErrAnd}
use Rattle.std.proofs.lemmas.Result.{err_from_is_err_and}
use Rattle.refusal.specs.declared.Refusal.{Refusal}
use Rattle.refusal.specs.declared.Refusal.TheVariants.{Firmware, Memory, Record, Place, LastSecond, TooEarly, Events, Output, EndsEarly, Field, LeftOver, Invalid}
use Rattle.refusal.specs.Refusal.{number, numbered}

pub number-some : (r : Refusal) → 1 ≤ number r
number-some Firmware = omega arith
number-some Memory = omega arith
number-some Record = omega arith
number-some Place = omega arith
number-some LastSecond = omega arith
number-some TooEarly = omega arith
number-some Events = omega arith
number-some Output = omega arith
number-some EndsEarly = omega arith
number-some Field = omega arith
number-some LeftOver = omega arith
number-some Invalid = omega arith

pub numbered_number : (r : Refusal) → numbered (number r) ≡ r
unfolding numbered
numbered_number Firmware = refl
numbered_number Memory = refl
numbered_number Record = refl
numbered_number Place = refl
numbered_number LastSecond = refl
numbered_number TooEarly = refl
numbered_number Events = refl
numbered_number Output = refl
numbered_number EndsEarly = refl
numbered_number Field = refl
numbered_number LeftOver = refl
numbered_number Invalid = refl

-- what a `?` passes on is the same refusal
pub passed-on : {A : Type 0} (outcome : Result A Refusal) {r : Refusal} → IsErrAnd outcome (λ given. given ≡ r) → outcome ≡ Err r
passed-on outcome e = let p = err_from_is_err_and outcome e in p.1 ∙ ap Err p.2
