-- What is due: nothing, a look, or a line that is complained of. Assumes nothing.
use Prim.Native.Nat.{ℕ}
use mathlib.Core.Bool.{Bool, true, false, cond, true≢false}
use mathlib.Core.List.{List}
use mathlib.Core.Path.{◌≡◌, refl}
use Rattle.lent.specs.Memory.{Memory}
use Rattle.time.specs.declared.Time.{Time}
use Rattle.grammar.specs.declared.Looking.{Looking}
use Rattle.grammar.specs.declared.Line.TheVariants as line
use Rattle.std.specs.Prelude.{Option}
use Rattle.course.specs.declared.Complaint.{Complaint}
use Rattle.course.specs.declared.Course.{Course}
use Rattle.course.specs.declared.Manner.{Manner}
use Rattle.course.specs.Desk.{Desk, desk, looked_refusal, looked, line_done, Leaves}

going_on : (stopped : Bool) (d d' : Desk) → stopped ≡ false → cond stopped d d' ≡ d'
going_on true d d' h = absurd (true≢false h)
going_on false d d' h = refl

module _ (w : Manner) (n : ℕ) (c : Course) (m : Memory) (events out : List ℕ) where
  pub look-due : (l : Looking) (t : Time) {c' : Course} {complaint : Option Complaint} {left : List ℕ} {end : ℕ} → c.stopped ≡ false
      → Leaves (looked w n l t (looked_refusal l t m) (desk c m events)) c' m events complaint out left end
      → Leaves (line_done w n (line.Look t l) (desk c m events)) c' m events complaint out left end
  look-due l t h seen = rw (going_on c.stopped (desk c m events) (looked w n l t (looked_refusal l t m) (desk c m events)) h) seen
