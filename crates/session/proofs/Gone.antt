-- A run over a file goes on as the definition of a run reads its bytes. Assumes nothing.
use Prim.Native.Nat.{ℕ, ◌-◌, ◌≤◌, ◌<◌}
use mathlib.Core.Bool.{Bool, true, false, cond, true≢false}
use mathlib.Core.List.{List, [], ◌++◌, append_assoc}
use mathlib.Core.Path.{◌≡◌, refl, sym, ap, ◌∙◌}
use native.Mathlib.Omega.{arith}
use lib.Dec.{eqb}
use lib.ListN.{length, take}
use Rattle.std.proofs.lemmas.Bool.{true_from_ne_false}
use Rattle.lent.specs.Memory.{Memory}
use Rattle.grammar.specs.declared.Line.TheVariants as line
use Rattle.std.specs.Prelude.{Result, Ok, Err, IfOk, OnErr, option_to_list}
use Rattle.course.specs.declared.Complaint.{Complaint}
use Rattle.course.specs.declared.Course.{Course}
use Rattle.course.specs.declared.Manner.{Manner}
use Rattle.course.specs.declared.Noted.{Noted}
use Rattle.course.specs.declared.Place.{Place}
use Rattle.course.specs.declared.memory.Backlog.{Backlog}
use Rattle.course.specs.Desk.{Desk, desk, called_all, numbered_from}
use Rattle.course.specs.Reader.{Reader, read_after, starts_with, line_ended, all_read, last_read, desk_at}
use Rattle.course.proofs.Claimed.{runs}
use Rattle.feeding.specs.Feeding.{between}
use Rattle.steps.specs.Stepping.{Steps, Closes, reader_of}
use Rattle.steps.proofs.Lines.{place-sound}
use Rattle.course.specs.declared.memory.Bench.{Bench}
use Rattle.course.specs.Views.{SameBench}
use Rattle.session.specs.declared.run.Run.{Run}
use Rattle.session.specs.Going.{Standing, read_on, Goes, reader_in, ReadWhole, Begins, WithPiece, Moves}

-- ---- one after the other

after-after : (text text' : List ℕ) (cs cs' : List Complaint) (r : Reader) → read_after text cs (read_after text' cs' r) ≡ read_after (text ++ text') (cs ++ cs') r
after-after text text' cs cs' r = rw (append_assoc text text' r.desk.said, append_assoc cs cs' r.desk.complaints)

last-after : (w : Manner) (text : List ℕ) (cs : List Complaint) (r : Reader) → last_read w (read_after text cs r) ≡ read_after text cs (last_read w r)
last-after w text cs r = by (eqb (length r.line) 0)
  where
    by : (b : Bool) → cond b (read_after text cs r) (line_ended w (read_after text cs r)) ≡ read_after text cs (cond b r (line_ended w r))
    by true = refl
    by false = runs.end_after w text cs r

pub goes-nowhere : (w : Manner) (more : Bool) (r : Reader) → Goes w more more r r
unfolding all_read
goes-nowhere w true r = record { bytes = []; said = []; complaints = []; read = refl; once = λ h. h }
goes-nowhere w false r = record { bytes = []; said = []; complaints = []; read = refl; once = λ h. h }

pub goes_on : (w : Manner) (more more' more'' : Bool) (r r' r'' : Reader) → Goes w more more' r r' → Goes w more' more'' r' r'' → Goes w more more'' r r''
goes_on w more more' more'' r r' r'' g h = record {
  bytes = cond more' (g.bytes ++ h.bytes) g.bytes;
  said = g.said ++ h.said;
  complaints = g.complaints ++ h.complaints;
  read = by more more' more'' g.once h.once g.read h.read;
  once = λ e. h.once (g.once e);
}
  where
    in-front : read_after g.said g.complaints (read_after h.said h.complaints r'') ≡ read_after (g.said ++ h.said) (g.complaints ++ h.complaints) r''
    in-front = after-after g.said h.said g.complaints h.complaints r''

    all : all_read w g.bytes r ≡ read_after g.said g.complaints r'
        → all_read w (g.bytes ++ h.bytes) r ≡ read_after g.said g.complaints (all_read w h.bytes r')
    all e = runs.pieces w g.bytes h.bytes r ∙ ap (all_read w h.bytes) e ∙ runs.text_after w h.bytes g.said g.complaints r'

    by : (a b c : Bool) → (a ≡ false → b ≡ false) → (b ≡ false → c ≡ false)
        → read_on a b w g.bytes r ≡ read_after g.said g.complaints r'
        → read_on b c w h.bytes r' ≡ read_after h.said h.complaints r''
        → read_on a c w (cond b (g.bytes ++ h.bytes) g.bytes) r ≡ read_after (g.said ++ h.said) (g.complaints ++ h.complaints) r''
    by true true true o p d e = all d ∙ ap (read_after g.said g.complaints) e ∙ in-front
    by true true false o p d e =
        ap (last_read w) (all d) ∙ last-after w g.said g.complaints (all_read w h.bytes r') ∙ ap (read_after g.said g.complaints) e ∙ in-front
    by true false true o p d e = absurd (true≢false (p refl))
    by true false false o p d e = d ∙ ap (read_after g.said g.complaints) e ∙ in-front
    by false true c o p d e = absurd (true≢false (o refl))
    by false false c o p d e = d ∙ ap (read_after g.said g.complaints) e ∙ in-front

-- ---- a step

module _ (w : Manner) (r : Run) (piece : List ℕ) (piece-long : length (take r.have piece) ≡ r.have) where
  module _ {b : Backlog} {c : Course} {m : Memory} {events : List ℕ} {p : Place} {b' : Backlog} {noted : Noted} {m' : Memory} {events' out left : List ℕ}
      (k : Steps w r.place b (take r.have piece) (desk c m events) p b' noted m' events' out left) where
    -- the run after it is one again
    pub step-inside : p.at ≤ r.have
    step-inside = let h = k.inside in omega (arith, piece-long)

    pub step-passed : r.more ≡ false → p.at ≡ r.have
    step-passed e = let a = r.passed e in let b = k.onward in let d = k.inside in omega (arith, piece-long)

    pub step-none-left : (r.place.running ≡ false → r.place.at < r.have) → r.more ≡ false → p.running ≡ false → p.waiting ≡ 0
    step-none-left bytes_left e h = k.none_left (true_from_ne_false r.place.running (λ i. let a = r.passed e in let b = bytes_left i in omega arith)) h

    pub step-goes : Goes w r.more r.more (reader_of w r.place b (desk c m events)) (reader_of w p b' (desk noted.course m' events'))
    unfolding all_read
    step-goes = record {
      bytes = passed;
      said = k.text;
      complaints = option_to_list noted.complaint;
      read = by r.more refl;
      once = λ e. e;
    }
      where
        passed : List ℕ
        passed = between r.place.at p.at (take r.have piece)

        by : (t : Bool) → r.more ≡ t → read_on t t w passed (reader_of w r.place b (desk c m events)) ≡ read_after k.text (option_to_list noted.complaint) (reader_of w p b' (desk noted.course m' events'))
        by true e = k.read
        by false e =
            let none : p.at - r.place.at ≡ 0 = let a = r.passed e in let d = k.inside in omega (arith, piece-long) in
            rw none at k.read

pub ruleset still_inside = (step-inside, step-passed, step-none-left)

-- ---- the end of the file

pub closes : (r r' : Run) {b b' : Backlog} → r'.course ≡ r.course → r'.more ≡ false → r.more ≡ true → Closes r.place b r'.place b' → Moves r b r' b'
unfolding all_read
closes r r' course_is over more k = record {
  goes = λ w m events. record {
    bytes = [];
    said = [];
    complaints = [];
    read = rw (more, over, course_is) (k.read w (desk r.course m events));
    once = λ e. over;
  };
}

-- ---- pieces

pub new-piece : {have : ℕ} {r r' : Run} → WithPiece have r r' → (b : Backlog) → Moves r b r' b
new-piece {have} {r} {r'} k b = record {
  goes = λ w m events.
      rw (k.course_is, k.before_is, k.lines_are, k.length_is, k.long_is, k.calls_wait, k.next_is, k.due_is, k.more_is)
      (goes-nowhere w r.more (reader_in w r b m events));
}

-- ---- turns

-- what holds anyway holds on a failure
pub on-failure : {A E P : Type 0} (r : Result A E) → P → OnErr r P
on-failure (Ok x) p = tt
on-failure (Err why) p = p

pub same-bench : (x : Bench) → SameBench x x
same-bench x = record { same_lent = record { same_record = refl; same_array = refl; same_charges = refl }; same_events = refl; same_out = refl }

pub still-bench : {x y z : Bench} → SameBench x y → SameBench y z → SameBench x z
still-bench h k = record {
  same_lent = record {
    same_record = k.same_lent.same_record ∙ h.same_lent.same_record;
    same_array = k.same_lent.same_array ∙ h.same_lent.same_array;
    same_charges = k.same_lent.same_charges ∙ h.same_lent.same_charges;
  };
  same_events = k.same_events ∙ h.same_events;
  same_out = k.same_out ∙ h.same_out;
}

-- what a run keeps is what the definition asks of it
pub run-stands : (r : Run) → Standing r
run-stands r = record { sound = place-sound r.place; inside = r.inside; fits = r.fits; passed = r.passed; none_left = r.none_left }

-- ---- the whole file

-- a desk at a place where nothing waits and nothing is due
nothing-waits : (w : Manner) (p : Place) (calls numbers : List ℕ) (d : Desk) → p.waiting ≡ 0 → p.due ≡ line.Nothing → desk_at w p calls numbers d ≡ d
unfolding called_all numbered_from
nothing-waits w p calls numbers d none due =
    let z : p.waiting - p.next ≡ 0 = omega arith in
    rw (due, z)

read_whole : (w : Manner) (c : Course) (first r : Run) (b b' : Backlog) (m m' : Memory) (events events' : List ℕ) → Begins c first
    → Goes w first.more r.more (reader_in w first b m events) (reader_in w r b' m' events')
    → r.course.stopped ≡ false → r.more ≡ false → r.place.running ≡ false → ReadWhole w (desk c m events) r.course m' events'
unfolding called_all numbered_from
read_whole w c first r b b' m m' events events' s g on more reading =
    let end = nothing-waits w r.place b'.calls b'.numbers (desk r.course m' events') (r.none_left more reading) (r.place.none_due reading) in
    let from-start : read_on first.more r.more w g.bytes (starts_with (desk c m events)) ≡ read_after g.said g.complaints (reader_in w r b' m' events') =
    ap (read_on first.more r.more w g.bytes) (sym (s.starts w b m events)) ∙ g.read in
    let read = rw (s.more_to_come, more) at from-start in
    record { text = g.bytes; said = g.said; complaints = g.complaints; not_stopped = on; desk_is = ap (λ (x : Reader). x.desk) read ∙ rw end }

-- and so where the course is given only then
pub read_if_whole : {E : Type 0} (after : Result Course E) (w : Manner) (c : Course) (first r : Run) (b b' : Backlog) (m m' : Memory) (events events' : List ℕ)
    → Begins c first → Goes w first.more r.more (reader_in w first b m events) (reader_in w r b' m' events')
    → IfOk after (λ x. (x ≡ r.course) × (r.course.stopped ≡ false) × (r.more ≡ false) × (r.place.running ≡ false))
    → IfOk after (λ x. ReadWhole w (desk c m events) x m' events')
read_if_whole (Err why) w c first r b b' m m' events events' s g h = tt
read_if_whole (Ok x) w c first r b b' m m' events events' s g h =
    rw h.0 (read_whole w c first r b b' m m' events events' s g h.1 h.2 h.3)
