-- What a look leaves of the desk: what is seen is said, and one that is refused is a line more that is left out. Assumes nothing.
use mathlib.Core.Path.{◌≡◌, refl}
use mathlib.Core.List.{List}
use Prim.Native.Nat.{ℕ}
use native.Mathlib.Omega.{arith}
use borrow.Author.Tests.{ne_eqb}
use Rattle.std.specs.Prelude.{Ok, Err, Option, None, Some}
use Rattle.refusal.specs.declared.Refusal.{Refusal}
use Rattle.refusal.specs.Refusal.{number}
use Rattle.refusal.proofs.Outcomes.{number-some, numbered_number}
use Rattle.time.specs.declared.Time.{Time}
use Rattle.lent.specs.Memory.{Memory}
use Rattle.grammar.specs.declared.Looking.{Looking}
use Rattle.text.proofs.Joined.{puts_none}
use Rattle.course.specs.declared.Complaint.{Complaint}
use Rattle.course.specs.declared.Complaint.TheVariants.{Unseen}
use Rattle.course.specs.declared.Course.{Course}
use Rattle.course.specs.declared.Manner.{Manner}
use Rattle.course.specs.Course.{after_left_out}
use Rattle.course.specs.Desk.{desk, looked_refusal, looked, Leaves}
use Rattle.voices.specs.Looks.{Looks}

module _ (w : Manner) (line : ℕ) (l : Looking) (t : Time) (m : Memory) (before after : Course) (out left : List ℕ) where
  abbrev Left : Option Complaint → ℕ → Type 0
  Left complaint end = (events : List ℕ) → Leaves (looked w line l t (looked_refusal l t m) (desk before m events)) after m events complaint out left end

  pub left-seen : {end : ℕ} → Looks line l t m (Ok end) out left → after ≡ before → Left None end
  left-seen s same events =
      rw s.0 (record { course_is = same; memory_is = refl; events_are = refl; said_is = s.1; complaints_are = refl })

  pub left-refused : (r : Refusal) → Looks line l t m (Err r) out left → after ≡ after_left_out w.go_on before → Left (Some (Unseen line r)) 0
  left-refused r s more events =
      let some = ne_eqb (number r) 0 (λ z. omega (arith, number-some r)) in
      rw (← s.0, some, s.1, numbered_number r) (record { course_is = more; memory_is = refl; events_are = refl; said_is = puts_none 0 out; complaints_are = refl })
