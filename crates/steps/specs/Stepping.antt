-- One step of a run on lent memory, and the end of its text. The text that a step said and what it complained of, followed by what is still
-- to come of the calls that wait and the line that is due, is what the bytes read do by the definition of a run. Assumes nothing.
use Rattle.std.specs.Prelude.{ℕ, ◌≤◌, ◌≡◌, Bool, true, false, List, [], length, option_to_list}
use Rattle.lent.specs.Memory.{Memory}
use Rattle.grammar.specs.declared.Line.{Line}
use Rattle.history.specs.History.{calls_of}
use Rattle.text.specs.Puts.{Puts}
use Rattle.course.specs.Bounds.{longest, room}
use Rattle.course.specs.declared.Manner.{Manner}
use Rattle.course.specs.declared.Noted.{Noted}
use Rattle.course.specs.declared.Place.{Place}
use Rattle.course.specs.declared.memory.Backlog.{Backlog}
use Rattle.course.specs.Desk.{Desk, desk, after_saying}
use Rattle.course.specs.Reader.{Reader, all_read, read_after, reader_at, desk_at, last_read}
use Rattle.feeding.specs.Feeding.{between}
use Rattle.taking.specs.Taking.{Reading}

-- A place that a run comes to: every place is sound.
pub record Sound (p : Place) : Type 0 where
  pub line_fits : p.line.length ≤ longest
  pub calls_fit : p.waiting ≤ room
  pub run_so_far : p.next ≤ p.waiting
  pub due_no_call : calls_of p.due ≡ []
  pub reads_on : p.running ≡ false → Reading p

-- Other calls wait at p' than at p: so many, with the next to be run, what is due, and whether they are being run. The rest is that of p.
pub record Awaits (p : Place) (waiting next : ℕ) (due : Line) (running : Bool) (p' : Place) : Type 0 where
  pub before_is : p'.before ≡ p.before
  pub lines_are : p'.lines ≡ p.lines
  pub length_is : p'.line.length ≡ p.line.length
  pub long_is : p'.line.long ≡ p.line.long
  pub calls_wait : p'.waiting ≡ waiting
  pub next_is : p'.next ≡ next
  pub due_is : p'.due ≡ due
  pub running_is : p'.running ≡ running
  pub at_is : p'.at ≡ p.at

-- the desk, once what waits is run and what is due is done
abbrev pub desk_of : Manner → Place → Backlog → Desk → Desk
desk_of w p b d = desk_at w p b.calls b.numbers d

-- the reader of a run: where it stands in the text, and the desk once what waits is run and what is due is done
abbrev pub reader_of : Manner → Place → Backlog → Desk → Reader
reader_of w p b d = reader_at (desk_of w p b d) p b.line

-- Some of what waits was done, on a desk that is d now, and the place is p'.
pub record Does (w : Manner) (p : Place) (b : Backlog) (before : Desk) (p' : Place) (noted : Noted) (m : Memory) (events out left : List ℕ) : Type 0 where
  pub text : List ℕ
  pub said_is : Puts text 0 out left noted.end
  pub desk_is : desk_of w p b before ≡ after_saying text (option_to_list noted.complaint) (desk_of w p' b (desk noted.course m events))
  pub same_reader : (d : Desk) (line : List ℕ) → reader_at d p line ≡ reader_at d p' line
  pub same_byte : p.at ≡ p'.at
  -- when calls are run no more, none waits
  pub none_left : p'.running ≡ false → p'.waiting ≡ 0

-- Bytes of a piece were read, and the lines that they end are taken.
pub record Reads (p : Place) (b : Backlog) (piece : List ℕ) (p' : Place) (b' : Backlog) : Type 0 where
  pub read : (w : Manner) (d : Desk) → all_read w (between p.at p'.at piece) (reader_of w p b d) ≡ reader_of w p' b' d
  pub onward : p.at ≤ p'.at
  pub inside : p'.at ≤ length piece

-- A step was taken.
pub record Steps (w : Manner) (p : Place) (b : Backlog) (piece : List ℕ) (before : Desk) (p' : Place) (b' : Backlog) (noted : Noted) (m : Memory) (events out left : List ℕ) : Type 0 where
  pub text : List ℕ
  pub said_is : Puts text 0 out left noted.end
  -- the bytes that were passed are read
  pub read : all_read w (between p.at p'.at piece) (reader_of w p b before)
      ≡ read_after text (option_to_list noted.complaint) (reader_of w p' b' (desk noted.course m events))
  pub onward : p.at ≤ p'.at
  pub inside : p'.at ≤ length piece
  pub none_left : p.running ≡ true → p'.running ≡ false → p'.waiting ≡ 0

-- The text has no more.
pub record Closes (p : Place) (b : Backlog) (p' : Place) (b' : Backlog) : Type 0 where
  pub read : (w : Manner) (d : Desk) → last_read w (reader_of w p b d) ≡ reader_of w p' b' d
  pub runs : p'.running ≡ true
  pub same_byte : p'.at ≡ p.at
