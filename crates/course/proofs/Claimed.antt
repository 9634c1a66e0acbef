-- The claim about runs: each definition looks only at the course, the memory and the event words, and puts what it says last.
-- Assumes nothing.
use Prim.Native.Nat.{ℕ}
use mathlib.Core.Bool.{Bool, true, false, cond}
use mathlib.Core.List.{List, [], ◌∷◌, ◌++◌, append_assoc}
use mathlib.Core.Path.{◌≡◌, refl, ap, ◌∙◌}
use lib.Dec.{eqb}
use Rattle.refusal.specs.Refusal.{numbered}
use Rattle.lent.specs.Asked.{Outcome, outcome}
use Rattle.grammar.specs.declared.Line.{Line}
use Rattle.grammar.specs.declared.Line.TheVariants as line
use Rattle.lent.specs.declared.Asking.{Asking}
use Rattle.settle.specs.Tallies.{raised}
use Rattle.course.specs.declared.Complaint.{Complaint}
use Rattle.course.specs.declared.Complaint.TheVariants as complaint
use Rattle.course.specs.declared.Manner.{Manner}
use Rattle.course.specs.Desk.{Desk, after_saying, made, refused, noted, called, looked_refusal, looked_said, seen, left_out, looked, line_done, Numbered, called_all}
use Rattle.course.specs.Reader.{Reader, read_after, newline, parsed, line_ended, byte_kept, byte_read, all_read}
use Rattle.course.specs.Claim.{Runs}

-- ---- what was said before

-- one of two desks by a test, with what was said before
either : (b : Bool) (text : List ℕ) (cs : List Complaint) (x y x' y' : Desk) → x' ≡ after_saying text cs x → y' ≡ after_saying text cs y
    → cond b x' y' ≡ after_saying text cs (cond b x y)
either true text cs x y x' y' p q = p
either false text cs x y x' y' p q = q

module _ (w : Manner) (text : List ℕ) (cs : List Complaint) where
  noted-after : (n : ℕ) (a : Asking) (o : Outcome) (d : Desk) → noted w n a o (after_saying text cs d) ≡ after_saying text cs (noted w n a o d)
  noted-after n a o d =
      either (eqb o.number 0) text cs (made w n a o d) (refused w n o d) _ _ (rw (append_assoc text d.said)) (rw (append_assoc cs d.complaints))

  called-after : (n : ℕ) (a : Asking) (d : Desk) → called w n a (after_saying text cs d) ≡ after_saying text cs (called w n a d)
  unfolding called
  called-after n a d =
      let o = outcome a.request a.time d.events d.memory in
      either d.course.stopped text cs d (noted w n a o d) _ _ refl (noted-after n a o d)

  left-out-after : (c : Complaint) (d : Desk) → left_out w c (after_saying text cs d) ≡ after_saying text cs (left_out w c d)
  left-out-after c d = rw (append_assoc cs d.complaints)

  line_after : (n : ℕ) (l : Line) (d : Desk) → line_done w n l (after_saying text cs d) ≡ after_saying text cs (line_done w n l d)
  line_after n line.Nothing d = refl
  line_after n (line.Call t q) d = called-after n (record { request = q; time = t }) d
  line_after n (line.Look t l) d =
      let refusal = looked_refusal l t d.memory in
      let saw = looked_said n l t d.memory in
      either d.course.stopped text cs d (looked w n l t refusal d) _ _ refl
      (either (eqb refusal 0) text cs (seen saw d) (left_out w (complaint.Unseen n (numbered refusal)) d) _ _ (rw (append_assoc text d.said)) (left-out-after (complaint.Unseen n (numbered refusal)) d))
  line_after n (line.Wrong f) d =
      either d.course.stopped text cs d (left_out w (complaint.Wrong n f) d) _ _ refl (left-out-after (complaint.Wrong n f) d)

  calls_after : (ns : List Numbered) (d : Desk) → called_all w ns (after_saying text cs d) ≡ after_saying text cs (called_all w ns d)
  unfolding called_all
  calls_after [] d = refl
  calls_after (n ∷ ns) d = ap (called_all w ns) (called-after n.number n.asking d) ∙ calls_after ns (called w n.number n.asking d)

  end_after : (r : Reader) → line_ended w (read_after text cs r) ≡ read_after text cs (line_ended w r)
  unfolding line_ended
  end_after r = rw (line_after (raised r.lines 1) (parsed r) r.desk)

  byte-after : (b : ℕ) (r : Reader) → byte_read w b (read_after text cs r) ≡ read_after text cs (byte_read w b r)
  unfolding byte_kept
  byte-after b r = by (eqb b newline)
    where
      by : (is : Bool) → cond is (line_ended w (read_after text cs r)) (byte_kept b (read_after text cs r)) ≡ read_after text cs (cond is (line_ended w r) (byte_kept b r))
      by true = end_after r
      by false = refl

  text_after : (xs : List ℕ) (r : Reader) → all_read w xs (read_after text cs r) ≡ read_after text cs (all_read w xs r)
  unfolding all_read
  text_after [] r = refl
  text_after (b ∷ xs) r = ap (all_read w xs) (byte-after b r) ∙ text_after xs (byte_read w b r)

-- ---- pieces

pieces : (w : Manner) (xs ys : List ℕ) (r : Reader) → all_read w (xs ++ ys) r ≡ all_read w ys (all_read w xs r)
unfolding all_read
pieces w [] ys r = refl
pieces w (b ∷ xs) ys r = pieces w xs ys (byte_read w b r)

-- ---- a run that has ended early

module _ (w : Manner) where
  line_stays : (n : ℕ) (l : Line) (d : Desk) → d.course.stopped ≡ true → line_done w n l d ≡ d
  unfolding called
  line_stays n line.Nothing d h = refl
  line_stays n (line.Call t q) d h = rw h
  line_stays n (line.Look t l) d h = rw h
  line_stays n (line.Wrong f) d h = rw h

  byte-stays : (b : ℕ) (r : Reader) → r.desk.course.stopped ≡ true → (byte_read w b r).desk ≡ r.desk
  unfolding line_ended byte_kept
  byte-stays b r h = by (eqb b newline)
    where
      by : (is : Bool) → (cond is (line_ended w r) (byte_kept b r)).desk ≡ r.desk
      by true = line_stays (raised r.lines 1) (parsed r) r.desk h
      by false = refl

  stays : (xs : List ℕ) (r : Reader) → r.desk.course.stopped ≡ true → (all_read w xs r).desk ≡ r.desk
  unfolding all_read
  stays [] r h = refl
  stays (b ∷ xs) r h =
      let same = byte-stays b r h in
      stays xs (byte_read w b r) (ap (λ (d : Desk). d.course.stopped) same ∙ h) ∙ same

pub runs : Runs
runs = record {
  pieces = pieces;
  line_after = λ w n l text cs d. line_after w text cs n l d;
  calls_after = λ w ns text cs d. calls_after w text cs ns d;
  text_after = λ w xs text cs r. text_after w text cs xs r;
  end_after = λ w text cs r. end_after w text cs r;
  stays = stays;
}
