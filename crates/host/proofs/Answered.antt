-- What a function leaves in its answer's place: the answer, or on a refusal what stood there. Assumes nothing.
use mathlib.Core.Path.{◌≡◌, refl, sym, ap, ◌∙◌}
use mathlib.Core.Bool.{Bool}
use mathlib.Core.List.{List}
use Prim.Native.Nat.{ℕ, zero, suc, ◌≤◌}
use native.Mathlib.Omega.{arith}
use Rattle.std.specs.Prelude.{Result, Ok, Err, MatchResult}
use Rattle.std.specs.Int.{from_bool}
use Rattle.refusal.specs.declared.Refusal.{Refusal}
use Rattle.refusal.specs.Refusal.{number, told, Answers}
use Rattle.refusal.proofs.Outcomes.{number-some}
use Rattle.flash.specs.declared.Answer.{Answer}
use Rattle.lent.specs.Memory.{Memory}
use Rattle.lent.specs.Asked.{Outcome, came_to, value_of, count_of, Told}
use Rattle.rows.specs.Rows.{flag_byte}
use Rattle.lent.specs.Looked.{answered}
use Rattle.save.proofs.Runs.{flag-from}

pub answer-kept : (r : Refusal) (answer old : ℕ) → old ≡ answered (number r) answer old
answer-kept r answer old = by (number r) (number-some r)
  where
    by : (n : ℕ) → 1 ≤ n → old ≡ answered n answer old
    by zero h = absurd (omega arith)
    by (suc n) h = refl

pub answer-placed : (answer old : ℕ) {n number new : ℕ} (o : Result ℕ Refusal) → Answers n answer o
    → (number ≡ told o) × MatchResult o (λ v. new ≡ v) (λ _. new ≡ old) → (number ≡ n) × (new ≡ answered number answer old)
answer-placed answer old (Ok v) a p = rw p.0 (sym a.0, p.1 ∙ a.1)
answer-placed answer old (Err r) a p = rw p.0 (a, p.1 ∙ answer-kept r answer old)

-- the same of a flag
pub flag-placed : (answer : Bool) (old : ℕ) {n number new : ℕ} (o : Result Bool Refusal) → Answers n answer o
    → (number ≡ told o) × MatchResult o (λ v. new ≡ from_bool v) (λ _. new ≡ old) → (number ≡ n) × (new ≡ answered number (flag_byte answer) old)
flag-placed answer old (Ok v) a p = rw p.0 (sym a.0, p.1 ∙ flag-from v ∙ rw a.1)
flag-placed answer old (Err r) a p = rw p.0 (a, p.1 ∙ answer-kept r (flag_byte answer) old)

-- what a call's outcome tells, by its answer and its count
pub told-by : (r : Result Answer Refusal) {o : Outcome} {m : Memory} {events : List ℕ} {number count : ℕ} → came_to r events m ≡ o → number ≡ told r
    → count ≡ count_of r → Told o number count m events
told-by r e f g = rw (sym e) (record { number_is = f; count_is = g; memory_is = refl; events_are = refl })

pub value-by : (r : Result Answer Refusal) {o : Outcome} {m : Memory} {events : List ℕ} → came_to r events m ≡ o → value_of r ≡ o.value
value-by r e = ap (λ (o : Outcome). o.value) e

pub ruleset placed = (answer-placed, flag-placed)
