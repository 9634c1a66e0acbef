-- What running some of the calls that wait gives back and leaves.
-- Assumes nothing.
use Rattle.std.specs.Prelude.{ℕ, ◌-◌, ◌≤◌, ◌<◌, List, Result}
use Rattle.refusal.specs.declared.Refusal.{Refusal}
use Rattle.flash.specs.declared.Answer.{Answer}
use Rattle.lent.specs.Memory.{Memory}
use Rattle.lent.specs.Asked.{Outcome, came_to}
use Rattle.course.specs.declared.Course.{Course}
use Rattle.course.specs.declared.Manner.{Manner}
use Rattle.course.specs.declared.Noted.{Noted}
use Rattle.course.specs.Desk.{Desk, desk, Leaves, called_all, numbered_from}
use Rattle.serving.specs.declared.Served.{Served}

-- What a call came to is noted in some way, whatever the memory is.
abbrev pub Notes : (Outcome → Desk → Desk) → Course → Result Answer Refusal → List ℕ → List ℕ → List ℕ → Noted → Type 0
Notes noting c last events out left r =
    (m : Memory) → Leaves (noting (came_to last events m) (desk c m events)) r.course m events r.complaint out left r.end

-- Of the calls from one place to another at least one is done, and what is left is the desk after those that are.
pub record Serves (w : Manner) (calls numbers : List ℕ) (from to : ℕ) (d : Desk) (m : Memory) (events out left : List ℕ) (r : Served) : Type 0 where
  pub further : from < r.next
  pub inside : r.next ≤ to
  pub leaves : Leaves (called_all w (numbered_from (r.next - from) from calls numbers) d) r.noted.course m events r.noted.complaint out left r.noted.end
