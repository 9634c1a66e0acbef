-- A run of the program over a file: whatever bytes the system gave, in whatever pieces, the desk comes to what the definition of a run says
-- of them. Assumes nothing.
use Rattle.std.specs.Prelude.{ℕ, ◌≤◌, ◌<◌, ◌≡◌, Bool, true, false, List}
use Rattle.lent.specs.Memory.{Memory}
use Rattle.course.specs.declared.Complaint.{Complaint}
use Rattle.course.specs.declared.Course.{Course}
use Rattle.course.specs.declared.Manner.{Manner}
use Rattle.course.specs.declared.memory.Backlog.{Backlog}
use Rattle.course.specs.Desk.{Desk, desk, after_saying}
use Rattle.course.specs.Reader.{Reader, read_after, starts_with, all_read, text_read}
use Rattle.steps.specs.Stepping.{Sound, reader_of}
use Rattle.session.specs.Pieces.{piece_bytes}
use Rattle.session.specs.declared.run.Run.{Run}

-- A run between two steps: every run stands so.
pub record Standing (r : Run) : Type 0 where
  pub sound : Sound r.place
  pub inside : r.place.at ≤ r.have
  pub fits : r.have ≤ piece_bytes
  -- once the file has no more, its last piece is passed, and when calls are run no more, none waits
  pub passed : r.more ≡ false → r.place.at ≡ r.have
  pub none_left : r.more ≡ false → r.place.running ≡ false → r.place.waiting ≡ 0

-- what bytes do while a file may have more, and with them its end
abbrev pub read_on : Bool → Bool → Manner → List ℕ → Reader → Reader
read_on true true w bytes r = all_read w bytes r
read_on true false w bytes r = text_read w bytes r
read_on false more w bytes r = r

-- From one reader to another by some bytes of a file, with what was said and complained of on the way.
pub record Goes (w : Manner) (more more' : Bool) (r r' : Reader) : Type 0 where
  pub bytes : List ℕ
  pub said : List ℕ
  pub complaints : List Complaint
  pub read : read_on more more' w bytes r ≡ read_after said complaints r'
  pub once : more ≡ false → more' ≡ false

-- the reader of a run, in its memory
abbrev pub reader_in : Manner → Run → Backlog → Memory → List ℕ → Reader
reader_in w r b m events = reader_of w r.place b (desk r.course m events)

-- A file could be read no further: some bytes of it led to a run that stood in its memory so.
pub record GoesSome (w : Manner) (more : Bool) (r : Reader) (b : Backlog) (m : Memory) (events : List ℕ) : Type 0 where
  pub last : Run
  pub goes : Goes w more last.more r (reader_in w last b m events)

-- A file was read whole: its text left this course, memory and event words.
pub record ReadWhole (w : Manner) (before : Desk) (c : Course) (m : Memory) (events : List ℕ) : Type 0 where
  pub text : List ℕ
  pub said : List ℕ
  pub complaints : List Complaint
  pub not_stopped : c.stopped ≡ false
  pub desk_is : (text_read w text (starts_with before)).desk ≡ after_saying said complaints (desk c m events)

-- A run before its first byte: whatever is in its memory, it begins with its desk.
pub record Begins (c : Course) (r : Run) : Type 0 where
  pub have_none : r.have ≡ 0
  pub more_to_come : r.more ≡ true
  pub starts : (w : Manner) (b : Backlog) (m : Memory) (events : List ℕ) → reader_in w r b m events ≡ starts_with (desk c m events)
  pub none_run : r.place.running ≡ false
  pub none_wait : r.place.waiting ≡ 0
  pub next_first : r.place.next ≡ 0

-- r' is a run with a new piece of so many bytes.
pub record WithPiece (have : ℕ) (r r' : Run) : Type 0 where
  pub course_is : r'.course ≡ r.course
  pub before_is : r'.place.before ≡ r.place.before
  pub lines_are : r'.place.lines ≡ r.place.lines
  pub length_is : r'.place.line.length ≡ r.place.line.length
  pub long_is : r'.place.line.long ≡ r.place.line.long
  pub calls_wait : r'.place.waiting ≡ r.place.waiting
  pub next_is : r'.place.next ≡ r.place.next
  pub due_is : r'.place.due ≡ r.place.due
  pub running_is : r'.place.running ≡ r.place.running
  pub at_is : r'.place.at ≡ 0
  pub have_is : r'.have ≡ have
  pub more_is : r'.more ≡ r.more

-- Nothing but the text was touched, so that whatever the flash is, the run goes on from one place to another.
pub record Moves (r : Run) (b : Backlog) (r' : Run) (b' : Backlog) : Type 0 where
  pub goes : (w : Manner) (m : Memory) (events : List ℕ) → Goes w r.more r'.more (reader_in w r b m events) (reader_in w r' b' m events)

-- whether a step can be taken, by an answer
pub record CanStep (r : Run) (answer : Bool) : Type 0 where
  pub can : answer ≡ true → r.place.running ≡ false → r.place.at < r.have
  pub stays : answer ≡ false → (r.place.running ≡ false) × (r.have ≤ r.place.at)
