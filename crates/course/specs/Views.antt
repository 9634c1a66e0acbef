-- What a run works on, at some moment.
-- Assumes nothing.
use Rattle.std.specs.Prelude.{◌≡◌}
use Rattle.lent.specs.Views.{memory_at, SameLent}
use Rattle.course.specs.declared.Course.{Course}
use Rattle.course.specs.declared.memory.Bench.{Bench}
use Rattle.course.specs.Desk.{Desk, desk}

-- a course over lent memory and its event words
abbrev pub desk_on : Course → Bench → Desk
desk_on c bench = desk c (memory_at bench.memory) bench.events.now

-- The same is lent as before, whatever it holds.
pub record SameBench (old new : Bench) : Type 0 where
  pub same_lent : SameLent old.memory new.memory
  pub same_events : new.events.ghost_name ≡ old.events.ghost_name
  pub same_out : new.out.ghost_name ≡ old.out.ghost_name
