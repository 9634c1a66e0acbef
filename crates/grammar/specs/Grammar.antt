-- A line of a history: nothing, a call or a look at its time, or the first fault from left to right. Its words are a time, a call's
-- word and the call's words, and nothing more.
-- Assumes nothing.
use Rattle.std.specs.Prelude.{ℕ, ◌-◌, Bool, cond, List, Option, Some, None, Result, Ok, Err}
use Rattle.time.specs.declared.Time.{Time}
use Rattle.cell.specs.Cell.{array_bytes}
use Rattle.words.specs.declared.reason.Reason.{Reason}
use Rattle.words.specs.declared.reason.Reason.TheVariants.{NoCall, UnknownCall, MoreWords, PastTheEnd, WordPastTheEnd}
use Rattle.lent.specs.declared.Request.TheVariants as request
use Rattle.moments.specs.Moments.{moment_of}
use Rattle.words.specs.declared.Word.{Word}
use Rattle.words.specs.Words.{word_at}
use Rattle.words.specs.declared.names.Kind.{Kind}
use Rattle.words.specs.declared.names.Kind.TheVariants as kind
use Rattle.words.specs.Names.{call_named}
use Rattle.grammar.specs.declared.Line.{Line}
use Rattle.grammar.specs.declared.Line.TheVariants.{Nothing, Call, Look, Wrong}
use Rattle.grammar.specs.declared.Looking.TheVariants.{Whole, Byte, Cell}
use Rattle.fields.specs.declared.Fault.{Fault}
use Rattle.fields.specs.Fields.{bytes_of, missing, fault_at, register_in, value_in, address_in, byte_in, bit_in, mode_in, module_in, oscillator_in}

-- ---- one word after the other

abbrev pub next : List ℕ → Word → Word
next line w = word_at line w.to

-- the line goes on with what a word means, and a wrong word ends it
abbrev pub go_on : {A : Type 0} → Result A Fault → (A → Result Line Fault) → Result Line Fault
go_on (Ok a) rest = rest a
go_on (Err f) rest = Err f

-- after the word w there is no word left over
unfoldable pub ended : Line → List ℕ → Word → Result Line Fault
ended whole line w = cond (missing (next line w)) (Ok whole) (Err (fault_at MoreWords (next line w)))

-- ---- the words of each call, one a definition, after the word w

unfoldable pub value_line : Time → ℕ → List ℕ → Word → Result Line Fault
value_line t r line w = go_on (value_in r line (next line w)) (λ v. ended (Call t (request.WriteRegister r v)) line (next line w))

unfoldable pub write_line : Time → List ℕ → Word → Result Line Fault
write_line t line w = go_on (register_in line (next line w)) (λ r. value_line t r line (next line w))

unfoldable pub byte_line : Time → ℕ → List ℕ → Word → Result Line Fault
byte_line t a line w = go_on (byte_in line (next line w)) (λ v. ended (Call t (request.Write8 a v)) line (next line w))

unfoldable pub data_line : Time → List ℕ → Word → Result Line Fault
data_line t line w = go_on (address_in array_bytes PastTheEnd line (next line w)) (λ a. byte_line t a line (next line w))

unfoldable pub read_line : Time → List ℕ → Word → Result Line Fault
read_line t line w =
    go_on (address_in array_bytes PastTheEnd line (next line w)) (λ a. ended (Call t (request.Read8 a)) line (next line w))

-- a word's second byte lies inside too
unfoldable pub word_line : Time → List ℕ → Word → Result Line Fault
word_line t line w =
    go_on (address_in (array_bytes - 1) WordPastTheEnd line (next line w)) (λ a. ended (Call t (request.Read16 a)) line (next line w))

unfoldable pub oscillator_line : Time → ℕ → Bool → List ℕ → Word → Result Line Fault
oscillator_line t mode modul line w =
    go_on (oscillator_in line (next line w)) (λ o. ended (Call t (request.Environment mode modul o)) line (next line w))

unfoldable pub module_line : Time → ℕ → List ℕ → Word → Result Line Fault
module_line t mode line w = go_on (module_in line (next line w)) (λ p. oscillator_line t mode p line (next line w))

unfoldable pub environment_line : Time → List ℕ → Word → Result Line Fault
environment_line t line w = go_on (mode_in line (next line w)) (λ m. module_line t m line (next line w))

-- the whole flash, a byte of it, or one of the byte's cells
unfoldable pub cell_line : Time → ℕ → List ℕ → Word → Result Line Fault
cell_line t a line w =
    cond (missing (next line w)) (Ok (Look t (Byte a))) (go_on (bit_in line (next line w)) (λ b. ended (Look t (Cell a b)) line (next line w)))

unfoldable pub look_line : Time → List ℕ → Word → Result Line Fault
look_line t line w =
    cond (missing (next line w)) (Ok (Look t Whole)) (go_on (address_in array_bytes PastTheEnd line (next line w)) (λ a. cell_line t a line (next line w)))

-- ---- the line

-- the call that the word w names
unfoldable pub line_for : Kind → Time → List ℕ → Word → Result Line Fault
line_for kind.Write t line w = write_line t line w
line_for kind.Data t line w = data_line t line w
line_for kind.Read t line w = read_line t line w
line_for kind.Word t line w = word_line t line w
line_for kind.Protect t line w = ended (Call t request.Protect) line w
line_for kind.Reset t line w = ended (Call t request.Reset) line w
line_for kind.PowerOff t line w = ended (Call t request.PowerOff) line w
line_for kind.Environment t line w = environment_line t line w
line_for kind.Look t line w = look_line t line w

-- what the word w names
abbrev pub line_named : Option Kind → Time → List ℕ → Word → Result Line Fault
line_named (Some called) t line w = line_for called t line w
line_named None t line w = Err (fault_at UnknownCall w)

-- what follows the time, which the word w is
unfoldable pub call_line : Time → List ℕ → Word → Result Line Fault
call_line t line w =
    cond (missing (next line w)) (Err (fault_at NoCall (next line w)))
    (line_named (call_named (bytes_of line (next line w))) t line (next line w))

abbrev pub timed_line : List ℕ → Word → Result Time Reason → Result Line Fault
timed_line line w (Ok t) = call_line t line w
timed_line line w (Err why) = Err (fault_at why w)

-- a line with no word is nothing
unfoldable pub parsed : Option Time → List ℕ → Result Line Fault
parsed before line =
    cond (missing (word_at line 0)) (Ok Nothing) (timed_line line (word_at line 0) (moment_of before (bytes_of line (word_at line 0))))

-- a line that can't be taken is a line too, which is told in its place
abbrev pub kept : Result Line Fault → Line
kept (Ok l) = l
kept (Err f) = Wrong f

-- what a line is, after a line with a time or without one
abbrev pub line_of : Option Time → List ℕ → Line
line_of before line = kept (parsed before line)
