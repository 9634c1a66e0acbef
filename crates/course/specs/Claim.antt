-- What is claimed of runs: a text may come in pieces, what was said before makes no difference, a run that has ended early stays so, and
-- what is complained of is the refusal that a call or a look has.
-- Assumes nothing.
use Rattle.std.specs.Prelude.{◌≡◌, true, List, ◌++◌, ℕ, suc}
use Rattle.refusal.specs.Refusal.{number, numbered}
use Rattle.time.specs.declared.Time.{Time}
use Rattle.lent.specs.declared.Request.{Request}
use Rattle.lent.specs.Memory.{Memory}
use Rattle.lent.specs.Asked.{outcome}
use Rattle.course.specs.declared.Complaint.{Complaint}
use Rattle.course.specs.declared.Manner.{Manner}
use Rattle.grammar.specs.declared.Line.{Line}
use Rattle.grammar.specs.declared.Looking.{Looking}
use Rattle.course.specs.Desk.{Desk, after_saying, line_done, looked_refusal, Numbered, called_all}
use Rattle.course.specs.Reader.{Reader, read_after, line_ended, all_read}

pub record Runs : Type 0 where
  -- read in pieces, a text does what it does as a whole
  pub pieces : (w : Manner) (xs ys : List ℕ) (r : Reader) → all_read w (xs ++ ys) r ≡ all_read w ys (all_read w xs r)
  -- what was said and complained of before stays in front, and nothing else depends on it
  pub line_after : (w : Manner) (n : ℕ) (l : Line) (text : List ℕ) (cs : List Complaint) (d : Desk)
      → line_done w n l (after_saying text cs d) ≡ after_saying text cs (line_done w n l d)
  pub calls_after : (w : Manner) (ns : List Numbered) (text : List ℕ) (cs : List Complaint) (d : Desk)
      → called_all w ns (after_saying text cs d) ≡ after_saying text cs (called_all w ns d)
  pub text_after : (w : Manner) (xs : List ℕ) (text : List ℕ) (cs : List Complaint) (r : Reader)
      → all_read w xs (read_after text cs r) ≡ read_after text cs (all_read w xs r)
  pub end_after : (w : Manner) (text : List ℕ) (cs : List Complaint) (r : Reader) → line_ended w (read_after text cs r) ≡ read_after text cs (line_ended w r)
  -- nothing happens after a run has ended early
  pub stays : (w : Manner) (xs : List ℕ) (r : Reader) → r.desk.course.stopped ≡ true → (all_read w xs r).desk ≡ r.desk

-- A number that is not 0 is that of the refusal which the complaint names.
pub record Complaining : Type 0 where
  pub calls : (q : Request) (t : Time) (events : List ℕ) (m : Memory) {n : ℕ} → (outcome q t events m).number ≡ suc n
      → number (numbered (outcome q t events m).number) ≡ suc n
  pub looks : (l : Looking) (t : Time) (m : Memory) {n : ℕ} → looked_refusal l t m ≡ suc n → number (numbered (looked_refusal l t m)) ≡ suc n
