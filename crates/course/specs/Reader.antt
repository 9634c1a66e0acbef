-- What the bytes of a history do: they make up lines, and each line's end has it done. docs/HISTORY-FORMAT.md. Assumes nothing.
use Rattle.time.specs.declared.Time.{Time}
use Rattle.std.specs.Prelude.{ℕ, ◌-◌, Bool, false, cond, not, ◌||◌, List, [], ◌∷◌, ◌++◌, Option, None, eqb, ltb, length, take}
use Rattle.words.specs.declared.reason.Reason.TheVariants.{TooLong}
use Rattle.fields.specs.declared.Fault.{Fault}
use Rattle.grammar.specs.declared.Line.{Line}
use Rattle.grammar.specs.declared.Line.TheVariants.{Wrong}
use Rattle.grammar.specs.Grammar.{line_of}
use Rattle.lent.specs.declared.Asking.{Asking}
use Rattle.history.specs.History.{calls_of, time_after}
use Rattle.settle.specs.Tallies.{raised}
use Rattle.course.specs.Bounds.{longest}
use Rattle.course.specs.declared.Manner.{Manner}
use Rattle.course.specs.declared.Place.{Place}
use Rattle.course.specs.declared.Complaint.{Complaint}
use Rattle.course.specs.Desk.{Desk, after_saying, line_done, called_all, numbered_from}

-- The desk, the time that a `+` counts from, how many lines are done, the line so far, and whether it is too long.
pub record Reader : Type 0 where
  pub desk : Desk
  pub before : Option Time
  pub lines : ℕ
  pub line : List ℕ
  pub long : Bool

-- the reader, with all that its desk said and complained of after what was said and complained of before
abbrev pub read_after : List ℕ → List Complaint → Reader → Reader
read_after text cs r = record { desk = after_saying text cs r.desk; before = r.before; lines = r.lines; line = r.line; long = r.long }

-- a text's first byte, with some desk: there is no time that a `+` could count from
abbrev pub starts_with : Desk → Reader
starts_with d = record { desk = d; before = None; lines = 0; line = []; long = false }

abbrev pub newline : ℕ
newline = 10

abbrev pub too_long : Fault
too_long = record { reason = TooLong; place = record { from = 0; to = 0 } }

-- a line that is too long is not read
abbrev pub parsed : Reader → Line
parsed r = cond r.long (Wrong too_long) (line_of r.before r.line)

-- the line is whole: it is done
unfoldable pub line_ended : Manner → Reader → Reader
line_ended w r = record {
  desk = line_done w (raised r.lines 1) (parsed r) r.desk;
  before = cond r.long r.before (time_after r.before r.line);
  lines = raised r.lines 1;
  line = [];
  long = false;
}

-- a byte more of the line, if there is room for it
unfoldable pub byte_kept : ℕ → Reader → Reader
byte_kept b r = record {
  desk = r.desk;
  before = r.before;
  lines = r.lines;
  line = cond (ltb (length r.line) longest) (r.line ++ b ∷ []) r.line;
  long = r.long || not (ltb (length r.line) longest);
}

abbrev pub byte_read : Manner → ℕ → Reader → Reader
byte_read w b r = cond (eqb b newline) (line_ended w r) (byte_kept b r)

unfoldable pub all_read : Manner → List ℕ → Reader → Reader
all_read w [] r = r
all_read w (b ∷ bs) r = all_read w bs (byte_read w b r)

-- The text is at its end: a last line without its end is done too.
abbrev pub last_read : Manner → Reader → Reader
last_read w r = cond (eqb (length r.line) 0) r (line_ended w r)

-- a whole text
abbrev pub text_read : Manner → List ℕ → Reader → Reader
text_read w text r = last_read w (all_read w text r)

-- ---- where a run stands in its memory

-- the reader at a place, with some desk; the line so far is the first bytes of a slice
abbrev pub reader_at : Desk → Place → List ℕ → Reader
reader_at d p line = record {
  desk = d;
  before = p.before;
  lines = p.lines;
  line = take p.line.length line;
  long = p.line.long;
}

-- the desk, once the calls that wait are run and the line that is due is done
abbrev pub desk_at : Manner → Place → List ℕ → List ℕ → Desk → Desk
desk_at w p calls numbers d =
    line_done w p.lines p.due (called_all w (numbered_from (p.waiting - p.next) p.next calls numbers) d)

-- ---- the calls of a text

-- the calls of the lines that end in some bytes, in their order
unfoldable pub calls_read : Manner → List ℕ → Reader → List Asking
calls_read w [] r = []
calls_read w (b ∷ bs) r = cond (eqb b newline) (calls_of (parsed r)) [] ++ calls_read w bs (byte_read w b r)

-- and that of a last line without its end
abbrev pub text_calls : Manner → List ℕ → Reader → List Asking
text_calls w text r = calls_read w text r ++ cond (eqb (length (all_read w text r).line) 0) [] (calls_of (parsed (all_read w text r)))
