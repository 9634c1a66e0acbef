-- What is known where no line of the table is given: each line's condition is false. So the words lent to an accepted call are enough
-- for its events, and its words up to its count are these. Assumes nothing.
use mathlib.Core.Path.{◌≡◌, refl}
use mathlib.Core.Bool.{false, ◌&&◌}
use mathlib.Core.List.{List, [], ◌∷◌, ◌++◌}
use Prim.Native.Nat.{ℕ, ◌≤◌, ◌<◌}
use native.Mathlib.Omega.{arith}
use borrow.Author.Tests.{ltb-false, leb-false}
use lib.ListN.{length, take, get_or-append}
use lib.Seq.{sets, sets-eq, take_at}
use Rattle.refusal.specs.declared.Refusal.TheVariants as refused
use Rattle.time.specs.declared.Time.{Time}
use Rattle.time.specs.Raw.{raw, BeforeLastSecond}
use Rattle.lists.specs.Lists.{at}
use Rattle.registers.specs.Pulses.{pulse}
use Rattle.registers.specs.Calls.{settles}
use Rattle.settle.specs.Settling.{range_bytes}
use Rattle.flash.specs.Chip.{registers, step}
use Rattle.flash.proofs.Room.{events-room}
use Rattle.layout.specs.Layout.{refused3}
use Rattle.lent.specs.declared.Request.{Request}
use Rattle.lent.specs.Memory.{Memory, chip_in, Check, check, first_given, misfits, last_second, too_early, too_few_words}
use Rattle.lent.specs.Asked.{call_of, misplaced, call_place, refusal}
use Rattle.lent.proofs.Lines.{line, placed-line}
use Rattle.lent.proofs.Tells.{words-enough}
use Rattle.lent.specs.Looked.{sized_checks}

-- ---- the lines

-- lines 2 to 6 of any call or look, and what comes after them
pub record Passed (place : ℕ) (t : Time) (m : Memory) (more : List Check) : Type 0 where
  pub placed : place ≡ 0
  pub in_time : BeforeLastSecond t
  pub since : raw (chip_in m).flash.pulse_since ≤ raw t
  pub rest : first_given more ≡ 0

pub passed : (place : ℕ) (t : Time) (m : Memory) (more : List Check) → first_given (sized_checks place t m.bytes (length m.array) (length m.charges) ++ more) ≡ 0
    → Passed place t m more
passed place t m more e =
    let l2 = line 1 (misfits m) _ e in
    let l3 = line 2 (refused3 m.bytes) _ l2.1 in
    let l4 = placed-line place _ l3.1 in
    let l5 = line 4 (last_second t) _ l4.1 in
    let l6 = line 5 (too_early t (chip_in m).flash) _ l5.1 in
    record { placed = l4.0; in_time = leb-false _ _ l5.0; since = ltb-false _ _ l6.0; rest = l6.1 }

-- ---- an accepted call's words

-- line 7, which a call has after the others
abbrev pub words_line : Request → Time → ℕ → Memory → List Check
words_line q now words m =
    check refused.Events (settles (call_of q) now (registers (chip_in m)) && too_few_words (pulse (registers (chip_in m))) words) ∷ []

module _ (q : Request) (now : Time) (words : ℕ) (m : Memory) (e : refusal q now words m ≡ 0) where
  pub call-passed : Passed (call_place q) now m (words_line q now words m)
  unfolding refusal
  call-passed = passed (call_place q) now m (words_line q now words m) e

  -- its address or its mode is none that is refused
  pub call-placed : misplaced q ≡ false
  call-placed = (line 3 (misplaced q) 0 call-passed.placed).0

  pub enough : length (step (call_of q) now (chip_in m)).events ≤ words
  enough =
      let r = registers (chip_in m) in
      let l7 = line 6 (settles (call_of q) now r && too_few_words (pulse r) words) 0 call-passed.rest in
      events-room (call_of q) now (chip_in m) words (words-enough (settles (call_of q) now r) (range_bytes (pulse r)) words l7.0)

-- ---- words and bytes left at the beginning of what was lent

module _ (xs lent : List ℕ) (h : length xs ≤ length lent) where
  pub words-given : take (length xs) (sets lent 0 xs) ≡ xs
  words-given = rw (sets-eq xs lent 0 (omega arith)) (take_at xs _ (length xs) refl)

  pub left_at : (i : ℕ) → i < length xs → at (sets lent 0 xs) i ≡ at xs i
  left_at i l = rw (sets-eq xs lent 0 (omega arith)) (get_or-append xs _ 0 i l)
