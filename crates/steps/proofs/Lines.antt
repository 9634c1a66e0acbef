-- Lines that are read one after the other. Assumes nothing.
use Prim.Native.Nat.{ℕ, ◌+◌, ◌-◌, ◌≤◌}
use mathlib.Core.List.{List, ◌++◌}
use mathlib.Core.Bool.{false}
use mathlib.Core.Path.{◌≡◌, ap, ◌∙◌}
use native.Mathlib.Omega.{arith}
use lib.ListN.{length, take, drop}
use lib.Seq.{take-add, drop-drop}
use Rattle.course.proofs.Claimed.{runs}
use Rattle.course.specs.declared.Place.{Place}
use Rattle.course.specs.Reader.{all_read}
use Rattle.course.specs.declared.memory.Backlog.{Backlog}
use Rattle.feeding.specs.Feeding.{between}
use Rattle.taking.specs.Taking.{Reading}
use Rattle.steps.specs.Stepping.{Sound, Reads}

between-parts : (a b c : ℕ) (bs : List ℕ) → a ≤ b → b ≤ c → between a c bs ≡ between a b bs ++ between b c bs
between-parts a b c bs h k =
    let e : c - a ≡ (b - a) + (c - b) = omega arith in
    let f : a + (b - a) ≡ b = omega arith in
    rw e (take-add (b - a) (c - b) (drop a bs) ∙ ap (λ (l : List ℕ). take (b - a) (drop a bs) ++ take (c - b) l) (drop-drop (b - a) a bs ∙ rw f))

pub no_bytes : (p : Place) (b : Backlog) (piece : List ℕ) → p.at ≤ length piece → Reads p b piece p b
unfolding all_read
no_bytes p b piece h = record {
  read = λ w d. let none : p.at - p.at ≡ 0 = omega arith in rw none;
  onward = omega arith;
  inside = h;
}

pub more-lines : {p q r : Place} {b b' b'' : Backlog} {piece : List ℕ}
    → Reads p b piece q b' → Reads q b' piece r b'' → Reads p b piece r b''
more-lines {p} {q} {r} {piece = piece} g h = record {
  read = λ w d.
      rw (between-parts p.at q.at r.at piece g.onward h.onward, runs.pieces, g.read w d) (h.read w d);
  onward = let a = g.onward in let b = h.onward in omega arith;
  inside = h.inside;
}

-- ---- places

-- another call may wait where none is run
pub reading : (p : Place) → p.running ≡ false → Reading p
reading p h = record { fits = p.line.fits; has_room = p.has_room h; none_run = p.none_run h; none_due = p.none_due h }

-- what a place keeps is what a run needs of it
pub place-sound : (p : Place) → Sound p
place-sound p = record {
  line_fits = p.line.fits;
  calls_fit = p.calls_fit;
  run_so_far = p.run_so_far;
  due_no_call = p.due_no_call;
  reads_on = reading p;
}

pub ruleset lines = (reading)
