-- A history: its lines one after the other, and the calls that they ask for, as numbers that the replay takes.
-- Assumes nothing.
use Rattle.std.specs.Prelude.{ℕ, ◌+◌, ◌*◌, cond, ◌≡◌, List, [], ◌∷◌, ◌++◌, Option, Some, Result, Ok, Err, length}
use Rattle.std.proofs.lemmas.List.Edits.{sets}
use Rattle.time.specs.declared.Time.{Time}
use Rattle.words.specs.declared.reason.Reason.{Reason}
use Rattle.moments.specs.Moments.{moment_of}
use Rattle.words.specs.Words.{word_at}
use Rattle.fields.specs.Fields.{bytes_of, missing}
use Rattle.grammar.specs.declared.Line.{Line}
use Rattle.grammar.specs.declared.Line.TheVariants.{Nothing, Call, Look, Wrong}
use Rattle.grammar.specs.Grammar.{line_of}
use Rattle.lent.specs.declared.Asking.{Asking}
use Rattle.listing.specs.Calls.{word_of}

-- ---- the calls of lines

-- the calls of a line: one or none
abbrev pub calls_of : Line → List Asking
calls_of Nothing = []
calls_of (Call t q) = record { request = q; time = t } ∷ []
calls_of (Look t l) = []
calls_of (Wrong f) = []

-- a time that could be read, or else the earlier one
abbrev pub read_or : Option Time → Result Time Reason → Option Time
read_or b (Ok t) = Some t
read_or b (Err why) = b

-- The time that a `+` in the next line counts from: that of the last line whose time could be read, whatever became of the rest of it.
unfoldable pub time_after : Option Time → List ℕ → Option Time
time_after b line = cond (missing (word_at line 0)) b (read_or b (moment_of b (bytes_of line (word_at line 0))))

-- the calls of lines, in their order
unfoldable pub calls_in : Option Time → List (List ℕ) → List Asking
calls_in b [] = []
calls_in b (line ∷ lines) = calls_of (line_of b line) ++ calls_in (time_after b line) lines

-- three numbers for each call: what, seconds and fraction
abbrev pub numbers_of : List Asking → List ℕ
numbers_of [] = []
numbers_of (a ∷ rest) = word_of a.request ∷ a.time.0 ∷ a.time.1 ∷ numbers_of rest

-- ---- taking lines

-- what the lines so far left: the time that the next one counts from, and how many calls wait, their numbers first in a slice
pub record Waiting : Type 0 where
  pub before : Option Time
  pub count : ℕ
  pub calls : List ℕ

abbrev pub waits : Option Time → ℕ → List ℕ → Waiting
waits b n calls = record { before = b; count = n; calls = calls }

-- calls go behind those that wait, and the next line counts from the time b
abbrev pub behind : List Asking → Option Time → Waiting → Waiting
behind asked b s = waits b (s.count + length asked) (sets s.calls (3 * s.count) (numbers_of asked))

-- a line is taken: its call, and its time
abbrev pub taken : List ℕ → Waiting → Waiting
taken line s = behind (calls_of (line_of s.before line)) (time_after s.before line) s

-- lines one after the other
unfoldable pub taken_all : List (List ℕ) → Waiting → Waiting
taken_all [] s = s
taken_all (line ∷ lines) s = taken_all lines (taken line s)

-- What taking a line gives back and leaves.
pub record Takes (line : List ℕ) (s : Waiting) (parsed : Line) (left : Waiting) : Type 0 where
  pub line_is : parsed ≡ line_of s.before line
  pub left_is : left ≡ taken line s
