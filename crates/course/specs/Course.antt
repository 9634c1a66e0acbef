-- What a run counts. Assumes nothing.
use Rattle.std.specs.Prelude.{ℕ, Bool, false, not, List, [], ◌∷◌, Some, None}
use Rattle.time.specs.declared.Time.{Time}
use Rattle.settle.specs.declared.tally.Tally.{Tally}
use Rattle.settle.specs.Tallies.{raised}
use Rattle.course.specs.declared.Course.{Course}
use Rattle.course.specs.declared.Complaint.{Complaint}
use Rattle.course.specs.declared.Complaint.TheVariants.{Refused, Unseen, Wrong}
use Rattle.course.specs.declared.Noted.{Noted}

abbrev pub zeros : List ℕ
zeros = 0 ∷ 0 ∷ 0 ∷ 0 ∷ 0 ∷ 0 ∷ []

-- nothing is read, and the flash is as it was left at a time
abbrev pub begun_at : Time → Course
begun_at t = record {
  counts = record { made = 0; refused = 0; left_out = 0; tally = record { completed = zeros; interrupted = zeros } };
  last = t;
  stopped = false;
}

-- n more calls were made, the last of them at a time, and the pulses by block are these now
abbrev pub with_calls : ℕ → Time → Tally → Course → Course
with_calls n t tally c = record {
  counts = record { made = raised c.counts.made n; refused = c.counts.refused; left_out = c.counts.left_out; tally = tally };
  last = t;
  stopped = c.stopped;
}

-- a call was refused: the run ends, unless it is to go on
abbrev pub after_refusal : Bool → Course → Course
after_refusal goOn c = record {
  counts = record { made = c.counts.made; refused = raised c.counts.refused 1; left_out = c.counts.left_out; tally = c.counts.tally };
  last = c.last;
  stopped = not goOn;
}

-- a line was left out: the same
abbrev pub after_left_out : Bool → Course → Course
after_left_out goOn c = record {
  counts = record { made = c.counts.made; refused = c.counts.refused; left_out = raised c.counts.left_out 1; tally = c.counts.tally };
  last = c.last;
  stopped = not goOn;
}

-- the course after a complaint: a look is left out as a line is
abbrev pub after_complaint : Bool → Complaint → Course → Course
after_complaint goOn (Refused n r) c = after_refusal goOn c
after_complaint goOn (Unseen n r) c = after_left_out goOn c
after_complaint goOn (Wrong n f) c = after_left_out goOn c

-- nothing is complained of, and what is said ends here
abbrev pub quiet : Course → ℕ → Noted
quiet c end = record { course = c; complaint = None; end = end }

-- a complaint is all that is noted: nothing is said
abbrev pub complained : Bool → Complaint → Course → Noted
complained goOn complaint c = record { course = after_complaint goOn complaint c; complaint = Some complaint; end = 0 }
