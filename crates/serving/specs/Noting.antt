-- Calls that are noted at once: those before the last gave no event words, read nothing and were not refused, so they only count.
-- Assumes nothing.
use Rattle.std.specs.Prelude.{ℕ, ◌-◌, cond, List, eqb}
use Rattle.lists.specs.Lists.{at}
use Rattle.lent.specs.Asked.{Outcome}
use Rattle.listing.specs.Calls.{asking_at}
use Rattle.course.specs.declared.Course.{Course}
use Rattle.course.specs.declared.Manner.{Manner}
use Rattle.course.specs.Course.{with_calls}
use Rattle.course.specs.Desk.{Desk, noted}

-- the calls from one up to another were made and said nothing: they only count, and the last of them gives the time
unfoldable pub passed : ℕ → ℕ → List ℕ → Course → Course
passed from to calls c = cond (eqb from to) c (with_calls (to - from) (asking_at calls (to - 1)).time c.counts.tally c)

-- the same at a desk
abbrev pub after_passed : ℕ → ℕ → List ℕ → Desk → Desk
after_passed from to calls d = record {
  course = passed from to calls d.course;
  memory = d.memory;
  events = d.events;
  said = d.said;
  complaints = d.complaints;
}

-- the calls from one up to the last one said nothing, and the last one came to an outcome
abbrev pub noted_at_once : Manner → ℕ → ℕ → List ℕ → List ℕ → Outcome → Desk → Desk
noted_at_once w from last calls numbers o d = noted w (at numbers last) (asking_at calls last) o (after_passed from last calls d)
