-- A line is taken: the line's call waits behind the calls that waited, or the line is due, so running the one and doing the other does
-- the line. Assumes nothing.
use Prim.Native.Nat.{ℕ, ◌-◌, ◌*◌, ◌≤◌, ◌<◌}
use mathlib.Core.Bool.{true, false, cond, ◌||◌}
use mathlib.Core.Path.{◌≡◌, refl, sym}
use mathlib.Core.List.{List, [], ◌++◌, append-nil}
use native.Mathlib.Nat.{sub-zero}
use native.Mathlib.Omega.{arith}
use borrow.Author.Tests.{leb-false}
use lib.Dec.{leb}
use lib.ListN.{length, take, set}
use Rattle.std.proofs.lemmas.Bool.{or_parts}
use Rattle.std.specs.Prelude.{Option}
use Rattle.time.specs.declared.Time.{Time}
use Rattle.grammar.specs.declared.Line.{Line}
use Rattle.grammar.specs.declared.Line.TheVariants.{Nothing, Call, Look, Wrong}
use Rattle.grammar.specs.Grammar.{line_of}
use Rattle.history.specs.History.{calls_of, time_after, Waiting, waits, Takes}
use Rattle.settle.specs.Tallies.{raised}
use Rattle.course.specs.Bounds.{room}
use Rattle.course.specs.declared.Manner.{Manner}
use Rattle.course.specs.declared.Place.{Place}
use Rattle.course.specs.Desk.{Desk, line_done, called_all, numbered_from}
use Rattle.course.specs.Reader.{too_long, line_ended}
use Rattle.taking.specs.Taking.{Reading, is_due, due_of, PlacedAfter, LineTaken}
use Rattle.taking.proofs.Waiting.{called-append, numbered, waiting-then}

-- ---- what a line is

-- its call is made, or what is due of it is done
done : (w : Manner) (n : ℕ) (l : Line) (d : Desk) → line_done w n (due_of l) (called_all w (numbered n (calls_of l)) d) ≡ line_done w n l d
unfolding called_all
done w n Nothing d = refl
done w n (Call t q) d = refl
done w n (Look t l) d = refl
done w n (Wrong f) d = refl

pub no_call : (l : Line) → calls_of (due_of l) ≡ []
no_call Nothing = refl
no_call (Call t q) = refl
no_call (Look t l) = refl
no_call (Wrong f) = refl

pub one-call : (l : Line) → length (calls_of l) ≤ 1
one-call Nothing = omega arith
one-call (Call t q) = omega arith
one-call (Look t l) = omega arith
one-call (Wrong f) = omega arith

pub none_due : (l : Line) → is_due l ≡ false → due_of l ≡ Nothing
none_due Nothing e = refl
none_due (Call t q) e = refl
none_due (Look t l) e = cc
none_due (Wrong f) e = cc

pub has-room : (l : Line) (k : ℕ) → (is_due l || leb room k) ≡ false → k < room
has-room l k e = leb-false room k (or_parts (is_due l) (leb room k) e).1

pub not-due : (l : Line) (k : ℕ) → (is_due l || leb room k) ≡ false → due_of l ≡ Nothing
not-due l k e = none_due l (or_parts (is_due l) (leb room k) e).0

pub ruleset places = (no_call, has-room, not-due)

-- ---- the place after it

module _ (p : Place) (line calls numbers : List ℕ) (r : Reading p) where
  abbrev whole : List ℕ
  whole = take p.line.length line

  abbrev n : ℕ
  n = raised p.lines 1

  -- what is left to show is which calls wait
  placed : {b : Option Time} {k : ℕ} {l : Line} {p' : Place} {calls' numbers' : List ℕ}
      → PlacedAfter p b n k l p'
      → b ≡ cond p.line.long p.before (time_after p.before whole)
      → l ≡ cond p.line.long (Wrong too_long) (line_of p.before whole)
      → numbered_from k 0 calls' numbers' ≡ numbered_from p.waiting 0 calls numbers ++ numbered n (calls_of l)
      → LineTaken line p calls numbers p' calls' numbers'
  unfolding line_ended
  placed {b} {k} {l} a after is wait =
      record {
        reader_is = λ w d.
            rw (a.before_is, a.lines_are, a.line_empty, a.line_short, a.calls_wait, a.none_run, a.due_is, r.none_due, r.none_run)
            (rw (sub-zero k, sub-zero p.waiting, wait, called-append, done, ← after, ← is));
        at_is = a.at_is;
        line_empty = a.line_empty;
        none_run = a.none_run;
      }

  -- a line that is too long leaves those that waited
  pub unread : {p' : Place} → p.line.long ≡ true → PlacedAfter p p.before n p.waiting (Wrong too_long) p' → LineTaken line p calls numbers p' calls numbers
  unread long a = placed a (rw long) (rw long) (sym (append-nil (numbered_from p.waiting 0 calls numbers)))

  -- and another has its own behind them, for which there was room
  pub fits : {l : Line} {left : Waiting} → Takes whole (waits p.before p.waiting calls) l left → left.count ≤ room
  fits t = rw t.left_is (omega (arith, one-call (line_of p.before whole)))

  pub parsed : {l : Line} {left : Waiting} {p' : Place} → p.line.long ≡ false → length calls ≡ 3 * room → length numbers ≡ room
      → Takes whole (waits p.before p.waiting calls) l left → PlacedAfter p left.before n left.count l p'
      → LineTaken line p calls numbers p' left.calls (set numbers p.waiting n)
  parsed {l} {left} {p'} long words beside t a =
      rw (t.left_is)
      (placed (rw (t.line_is, t.left_is) at a) (rw long) (rw long)
      (waiting-then p.before p.waiting n whole calls numbers (omega arith) (omega arith)))
