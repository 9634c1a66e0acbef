-- What a line of a history does: a call is made, a look is taken, or the line is complained of. The bytes said are those of standard
-- output; complaints are told by what they are about. Assumes nothing.
use Rattle.std.specs.Prelude.{ℕ, zero, suc, ◌+◌, ◌*◌, ◌/◌, ◌≡◌, Bool, true, false, cond, List, [], ◌∷◌, ◌++◌, eqb, Option, option_to_list}
use Rattle.refusal.specs.Refusal.{numbered}
use Rattle.time.specs.declared.Time.{Time}
use Rattle.lists.specs.Lists.{at}
use Rattle.cell.specs.Cell.{page_bytes, pages}
use Rattle.settle.specs.Tallies.{tallied}
use Rattle.flash.specs.declared.PageState.TheVariants.{Legible}
use Rattle.flash.specs.Looking.{charge_at, peek_at, page_state, page_states}
use Rattle.lent.specs.declared.Request.{Request}
use Rattle.lent.specs.declared.Request.TheVariants.{WriteRegister, Write8, Read8, Read16, Protect, Reset, PowerOff, Environment}
use Rattle.lent.specs.Memory.{Memory, chip_in}
use Rattle.lent.specs.Asked.{Outcome, outcome}
use Rattle.lent.specs.Looked.{look_refusal, peek_refusal, charge_refusal}
use Rattle.ledger.specs.Lists.{words_of}
use Rattle.grammar.specs.declared.Line.{Line}
use Rattle.grammar.specs.declared.Line.TheVariants as line
use Rattle.grammar.specs.declared.Looking.{Looking}
use Rattle.grammar.specs.declared.Looking.TheVariants.{Whole, Byte, Cell}
use Rattle.lent.specs.declared.Asking.{Asking}
use Rattle.listing.specs.Calls.{asking_at}
use Rattle.text.specs.Puts.{Puts}
use Rattle.answers.specs.Answers.{answer_said, byte_said, cell_said, whole_said}
use Rattle.sayings.specs.Sayings.{event_said}
use Rattle.verdict.specs.States.{count_in}
use Rattle.course.specs.declared.Complaint.{Complaint}
use Rattle.course.specs.declared.Complaint.TheVariants.{Refused, Unseen, Wrong}
use Rattle.course.specs.declared.Course.{Course}
use Rattle.course.specs.declared.Manner.{Manner}
use Rattle.course.specs.Course.{with_calls, after_refusal, after_left_out}

-- The desk in the course of a run: what it has counted, the flash, the event words as the last call left them, what it has said and
-- complained of.
pub record Desk : Type 0 where
  pub course : Course
  pub memory : Memory
  pub events : List ℕ
  pub said : List ℕ
  pub complaints : List Complaint

-- the desk, where nothing is said yet
abbrev pub desk : Course → Memory → List ℕ → Desk
desk c m events = record { course = c; memory = m; events = events; said = []; complaints = [] }

-- the desk, with all that it said and complained of after what was said and complained of before
abbrev pub after_saying : List ℕ → List Complaint → Desk → Desk
after_saying text cs d = record { course = d.course; memory = d.memory; events = d.events; said = text ++ d.said; complaints = cs ++ d.complaints }

-- once the run has ended early nothing happens
abbrev pub unless_stopped : Desk → Desk → Desk
unless_stopped d next = cond d.course.stopped d next

-- ---- calls

-- each event in words, with its time
unfoldable pub events_said : Time → List ℕ → List ℕ
events_said t [] = []
events_said t (w ∷ ws) = event_said t.0 t.1 w ++ events_said t ws

-- what a read answered
abbrev pub value_said : ℕ → Request → ℕ → List ℕ
value_said n (WriteRegister a v) value = []
value_said n (Write8 a v) value = []
value_said n (Read8 a) value = answer_said n a value false
value_said n (Read16 a) value = answer_said n a value true
value_said n Protect value = []
value_said n Reset value = []
value_said n PowerOff value = []
value_said n (Environment mode modul oscillator) value = []

-- what a call made said, where that is asked for
abbrev pub call_said : Bool → ℕ → Asking → List ℕ → ℕ → List ℕ
call_said events n a words value = cond events (events_said a.time words ++ value_said n a.request value) []

-- a call was made
abbrev pub made : Manner → ℕ → Asking → Outcome → Desk → Desk
made w n a o d = record {
  course = with_calls 1 a.time (tallied d.course.counts.tally (words_of o)) d.course;
  memory = o.memory;
  events = o.events;
  said = d.said ++ call_said w.events n a (words_of o) o.value;
  complaints = d.complaints;
}

-- a call was refused
abbrev pub refused : Manner → ℕ → Outcome → Desk → Desk
refused w n o d = record {
  course = after_refusal w.go_on d.course;
  memory = o.memory;
  events = o.events;
  said = d.said;
  complaints = d.complaints ++ Refused n (numbered o.number) ∷ [];
}

abbrev pub noted : Manner → ℕ → Asking → Outcome → Desk → Desk
noted w n a o d = cond (eqb o.number 0) (made w n a o d) (refused w n o d)

-- the call of line n
unfoldable pub called : Manner → ℕ → Asking → Desk → Desk
called w n a d = unless_stopped d (noted w n a (outcome a.request a.time d.events d.memory) d)

-- ---- looks

abbrev pub looked_refusal : Looking → Time → Memory → ℕ
looked_refusal Whole t m = look_refusal 0 t m
looked_refusal (Byte a) t m = peek_refusal a t m
looked_refusal (Cell a bit) t m = charge_refusal a bit t m

-- what is seen: how many pages are legible, a byte and the state of its page, or a cell's charge
abbrev pub looked_said : ℕ → Looking → Time → Memory → List ℕ
looked_said n Whole t m = whole_said n (count_in Legible (page_states t (chip_in m)) 0 pages)
looked_said n (Byte a) t m = byte_said n a (peek_at t (chip_in m) a) (page_state t (chip_in m) (a / page_bytes))
looked_said n (Cell a bit) t m = cell_said n a bit (charge_at t (chip_in m) (8 * a + bit))

abbrev pub seen : List ℕ → Desk → Desk
seen text d = record { course = d.course; memory = d.memory; events = d.events; said = d.said ++ text; complaints = d.complaints }

-- a line is left out
abbrev pub left_out : Manner → Complaint → Desk → Desk
left_out w c d = record {
  course = after_left_out w.go_on d.course;
  memory = d.memory;
  events = d.events;
  said = d.said;
  complaints = d.complaints ++ c ∷ [];
}

abbrev pub looked : Manner → ℕ → Looking → Time → ℕ → Desk → Desk
looked w n l t refusal d = cond (eqb refusal 0) (seen (looked_said n l t d.memory) d) (left_out w (Unseen n (numbered refusal)) d)

-- a look at the flash as the desk has it
abbrev pub look_done : Manner → ℕ → Looking → Time → Desk → Desk
look_done w n l t d = looked w n l t (looked_refusal l t d.memory) d

-- ---- lines

abbrev pub line_done : Manner → ℕ → Line → Desk → Desk
line_done w n line.Nothing d = d
line_done w n (line.Call t q) d = called w n (record { request = q; time = t }) d
line_done w n (line.Look t l) d = unless_stopped d (look_done w n l t d)
line_done w n (line.Wrong f) d = unless_stopped d (left_out w (Wrong n f) d)

-- ---- calls that wait, each with the number of its line

pub record Numbered : Type 0 where
  pub number : ℕ
  pub asking : Asking

unfoldable pub called_all : Manner → List Numbered → Desk → Desk
called_all w [] d = d
called_all w (n ∷ ns) d = called_all w ns (called w n.number n.asking d)

-- n calls from the i-th on, in a list of calls and beside it their lines' numbers
unfoldable pub numbered_from : ℕ → ℕ → List ℕ → List ℕ → List Numbered
numbered_from zero i calls numbers = []
numbered_from (suc n) i calls numbers =
    record { number = at numbers i; asking = asking_at calls i } ∷ numbered_from n (suc i) calls numbers

-- ---- what a function shows of a desk that had said nothing before

-- The course, memory and event words are the desk's; what it has said is put at the start of a slice, and it has complained of this, or of
-- nothing.
pub record Leaves (d : Desk) (c : Course) (m : Memory) (events : List ℕ) (complaint : Option Complaint) (out left : List ℕ) (end : ℕ) : Type 0 where
  pub course_is : c ≡ d.course
  pub memory_is : m ≡ d.memory
  pub events_are : events ≡ d.events
  pub said_is : Puts d.said 0 out left end
  pub complaints_are : option_to_list complaint ≡ d.complaints
