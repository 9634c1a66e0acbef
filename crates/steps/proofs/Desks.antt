-- What waits may be done in parts: some calls, then the others, then the line that is due; and what a part said goes in front.
-- Assumes nothing.
use Prim.Native.Nat.{ℕ, zero, suc, ◌+◌, ◌-◌, ◌≤◌, ◌<◌}
use mathlib.Core.Bool.{Bool, true, false, true≢false}
use mathlib.Core.List.{List, [], append-nil}
use mathlib.Core.Path.{◌≡◌, sym, ap, ◌∙◌}
use native.Mathlib.Nat.{add-zero, zero-add}
use native.Mathlib.Omega.{arith}
use lib.ListN.{length}
use Rattle.lent.specs.Memory.{Memory}
use Rattle.grammar.specs.declared.Line.{Line}
use Rattle.grammar.specs.declared.Line.TheVariants.{Nothing}
use Rattle.text.proofs.Joined.{puts_none}
use Rattle.std.specs.Prelude.{Option, None, option_to_list}
use Rattle.course.specs.declared.Complaint.{Complaint}
use Rattle.course.specs.declared.Course.{Course}
use Rattle.course.specs.declared.Manner.{Manner}
use Rattle.course.specs.declared.Noted.{Noted}
use Rattle.course.specs.declared.Place.{Place}
use Rattle.course.specs.declared.memory.Backlog.{Backlog}
use Rattle.course.specs.Desk.{Desk, desk, after_saying, line_done, called_all, numbered_from, Leaves}
use Rattle.course.specs.Reader.{all_read, reader_at}
use Rattle.course.proofs.Claimed.{runs}
use Rattle.steps.specs.Stepping.{Awaits, Does, Reads, Steps}

-- ---- calls

calls-split : (w : Manner) (a b i : ℕ) (calls numbers : List ℕ) (d : Desk)
    → called_all w (numbered_from (a + b) i calls numbers) d ≡ called_all w (numbered_from b (i + a) calls numbers) (called_all w (numbered_from a i calls numbers) d)
unfolding called_all numbered_from
calls-split w zero b i calls numbers d = rw (zero-add, add-zero)
calls-split w (suc a) b i calls numbers d =
    let e : i + suc a ≡ suc i + a = omega arith in
    let f : suc a + b ≡ suc (a + b) = omega arith in
    rw (e, f) (calls-split w a b (suc i) calls numbers _)

-- a desk by what a function shows of it
shown : {d : Desk} {c : Course} {m : Memory} {events : List ℕ} {complaint : Option Complaint} {out left : List ℕ} {end : ℕ}
    → Leaves d c m events complaint out left end → d ≡ after_saying d.said (option_to_list complaint) (desk c m events)
shown {d} l = rw (append-nil, append-nil, l.course_is, l.memory_is, l.events_are, l.complaints_are)

-- ---- places

same-reader : {p p' : Place} {waiting next : ℕ} {due : Line} {running : Bool} → Awaits p waiting next due running p'
    → (d : Desk) (line : List ℕ) → reader_at d p line ≡ reader_at d p' line
same-reader a d line = rw (a.before_is, a.lines_are, a.length_is, a.long_is)

pub run-up-to : {w : Manner} {p p' : Place} {b : Backlog} {d : Desk} {noted : Noted} {m : Memory} {events out left : List ℕ}
    → (next : ℕ) → p.next < next → next ≤ p.waiting → Awaits p p.waiting next p.due true p'
    → Leaves (called_all w (numbered_from (next - p.next) p.next b.calls b.numbers) d) noted.course m events noted.complaint out left noted.end
    → Does w p b d p' noted m events out left
run-up-to {w} {p} {p'} {b} {d} {noted} {m} {events} next more inside a l = record {
  text = now;
  said_is = l.said_is;
  desk_is = rw (a.lines_are, a.due_is, a.calls_wait, a.next_is) (rw (parts, shown l, runs.calls_after, runs.line_after));
  same_reader = same-reader a;
  same_byte = sym a.at_is;
  none_left = λ h. absurd (true≢false (sym a.running_is ∙ h));
}
  where
    first : Desk
    first = called_all w (numbered_from (next - p.next) p.next b.calls b.numbers) d

    now : List ℕ
    now = first.said

    parts : called_all w (numbered_from (p.waiting - p.next) p.next b.calls b.numbers) d ≡ called_all w (numbered_from (p.waiting - next) next b.calls b.numbers) first
    parts =
        let e : p.waiting - p.next ≡ (next - p.next) + (p.waiting - next) = omega arith in
        let f : p.next + (next - p.next) ≡ next = omega arith in
        rw e (calls-split w (next - p.next) (p.waiting - next) p.next b.calls b.numbers d ∙ rw f)

-- a call is not due, so what is due needs no event words
pub all_done_lem : {w : Manner} {p p' : Place} {d : Desk} {noted : Noted} {m : Memory} {events out left : List ℕ}
    → (b : Backlog) → p.waiting ≤ p.next → Awaits p 0 0 Nothing false p'
    → Leaves (line_done w p.lines p.due d) noted.course m events noted.complaint out left noted.end
    → Does w p b d p' noted m events out left
unfolding called_all numbered_from
all_done_lem {w} {p} {p'} {d} b none a l = record {
  text = (line_done w p.lines p.due d).said;
  said_is = l.said_is;
  desk_is =
      let z : p.waiting - p.next ≡ 0 = omega arith in
      rw (a.lines_are, a.due_is, a.calls_wait, a.next_is, z) (shown l);
  same_reader = same-reader a;
  same_byte = sym a.at_is;
  none_left = λ h. a.calls_wait;
}

-- ---- steps

pub ran_on : {w : Manner} {p : Place} {b : Backlog} {d : Desk} {p' : Place} {noted : Noted} {m : Memory} {events out left : List ℕ}
    → (piece : List ℕ) → p.at ≤ length piece → Does w p b d p' noted m events out left
    → Steps w p b piece d p' b noted m events out left
unfolding all_read
ran_on {w} {p} {b} {d} {p'} piece inside k = record {
  text = k.text;
  said_is = k.said_is;
  read =
      let none : p'.at - p.at ≡ 0 = let e = k.same_byte in omega arith in
      rw none (ap (λ (x : Desk). reader_at x p b.line) k.desk_is ∙ k.same_reader _ b.line);
  onward = let e = k.same_byte in omega arith;
  inside = let e = k.same_byte in omega arith;
  none_left = λ running. k.none_left;
}

pub did_read : {p : Place} {b : Backlog} {piece : List ℕ} {p' : Place} {b' : Backlog}
    → (w : Manner) (c : Course) (m : Memory) (events out : List ℕ) → p.running ≡ false → Reads p b piece p' b'
    → Steps w p b piece (desk c m events) p' b' (record { course = c; complaint = None; end = 0 }) m events out out
did_read w c m events out reading r = record {
  text = [];
  said_is = puts_none 0 out;
  read = r.read w (desk c m events);
  onward = let h = r.onward in omega arith;
  inside = r.inside;
  none_left = λ running. absurd (true≢false (sym running ∙ reading));
}

pub ruleset moved = (run-up-to, all_done_lem, ran_on, did_read)
