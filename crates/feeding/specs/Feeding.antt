-- The bytes of a piece are moved to the line, up to the line's end or the piece's. docs/HISTORY-FORMAT.md. Assumes nothing.
use Rattle.std.specs.Prelude.{ℕ, suc, ◌+◌, ◌-◌, ◌≤◌, ◌<◌, cond, List, ◌≡◌, ltb, length, take, drop}
use Rattle.byte_search.specs.Search.{index_of}
use Rattle.course.specs.declared.LineSoFar.{LineSoFar}
use Rattle.course.specs.declared.Manner.{Manner}
use Rattle.course.specs.declared.Place.{Place}
use Rattle.course.specs.Desk.{Desk}
use Rattle.course.specs.Reader.{newline, line_ended, all_read, reader_at}
use Rattle.feeding.specs.declared.Fed.{Fed}

-- the bytes from one place up to another
abbrev pub between : ℕ → ℕ → List ℕ → List ℕ
between from to bs = take (to - from) (drop from bs)

-- where the line ends that goes on at a place of a piece: at its newline, or at the piece's end
abbrev pub line_end : List ℕ → ℕ → ℕ
line_end piece at = at + index_of newline (drop at piece)

-- a place with a line so far and the next byte of the piece; the rest is its own
abbrev pub fed_to : LineSoFar → ℕ → Place → Place
fed_to line at p = record p { line = line; at = at }

-- What is fed to a line so far, from a byte of the piece on: the piece, the line's slice as it was and as it is left.
pub record Feeds (l : LineSoFar) (at : ℕ) (piece line left : List ℕ) (fed : Fed) : Type 0 where
  -- the line has ended if its newline is in the piece, and the next byte is the one after it
  pub ended_is : fed.ended ≡ ltb (line_end piece at) (length piece)
  pub at_is : fed.at ≡ cond fed.ended (suc (line_end piece at)) (length piece)
  pub onward : at < fed.at
  pub inside : fed.at ≤ length piece
  -- the line's bytes are kept, wherever else a run stands
  pub kept : (w : Manner) (d : Desk) (p : Place)
      → all_read w (between at (line_end piece at) piece) (reader_at d (fed_to l at p) line) ≡ reader_at d (fed_to fed.line fed.at p) left
  -- so all that were passed are read, once the line is done if it has ended
  pub reads : (w : Manner) (d : Desk) (p : Place)
      → all_read w (between at fed.at piece) (reader_at d (fed_to l at p) line)
      ≡ cond fed.ended (line_ended w (reader_at d (fed_to fed.line fed.at p) left)) (reader_at d (fed_to fed.line fed.at p) left)
