-- A line of a history that was read whole: its call waits, or it is due. Assumes nothing.
use Rattle.std.specs.Prelude.{ℕ, ◌≤◌, ◌<◌, ◌≡◌, Bool, true, false, cond, ◌||◌, List, Option, leb}
use Rattle.time.specs.declared.Time.{Time}
use Rattle.grammar.specs.declared.Line.{Line}
use Rattle.grammar.specs.declared.Line.TheVariants.{Nothing, Call, Look, Wrong}
use Rattle.course.specs.Bounds.{longest, room}
use Rattle.course.specs.declared.Manner.{Manner}
use Rattle.course.specs.declared.Place.{Place}
use Rattle.course.specs.Desk.{Desk}
use Rattle.course.specs.Reader.{line_ended, reader_at, desk_at}

-- Lines are read on: the bytes of this one lie in their slice, another call may wait, none is run yet, and no line is due.
pub record Reading (p : Place) : Type 0 where
  pub fits : p.line.length ≤ longest
  pub has_room : p.waiting < room
  pub none_run : p.next ≡ 0
  pub none_due : p.due ≡ Nothing

-- a look and a fault are due: they are told after the calls that wait
abbrev pub is_due : Line → Bool
is_due Nothing = false
is_due (Call t q) = false
is_due (Look t l) = true
is_due (Wrong f) = true

abbrev pub due_of : Line → Line
due_of l = cond (is_due l) l Nothing

-- p' is the place after a line, the n-th, with k calls that wait then: they are run where the line is due, or where there is no more room.
pub record PlacedAfter (p : Place) (b : Option Time) (n k : ℕ) (line : Line) (p' : Place) : Type 0 where
  pub before_is : p'.before ≡ b
  pub lines_are : p'.lines ≡ n
  pub line_empty : p'.line.length ≡ 0
  pub line_short : p'.line.long ≡ false
  pub calls_wait : p'.waiting ≡ k
  pub none_run : p'.next ≡ 0
  pub due_is : p'.due ≡ due_of line
  pub runs : p'.running ≡ (is_due line || leb room k)
  pub at_is : p'.at ≡ p.at

-- A line was taken at the place p, and p' is the place now. Once the calls that wait at p' are run and what is due there is done, on
-- whatever desk, the line is done after the calls that waited at p.
pub record LineTaken (line : List ℕ) (p : Place) (calls numbers : List ℕ) (p' : Place) (calls' numbers' : List ℕ) : Type 0 where
  pub reader_is : (w : Manner) (d : Desk)
      → reader_at (desk_at w p' calls' numbers' d) p' line ≡ line_ended w (reader_at (desk_at w p calls numbers d) p line)
  pub at_is : p'.at ≡ p.at
  pub line_empty : p'.line.length ≡ 0
  pub none_run : p'.next ≡ 0
