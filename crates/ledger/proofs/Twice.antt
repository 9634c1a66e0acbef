-- A word read that is not served is two byte reads at the same time, on the whole chip: the first closes the pulse, settles to now and
-- leaves no sense due, so the second changes nothing and gives no event. Assumes nothing.
use mathlib.Core.Path.{◌≡◌, refl, ap, sym, ◌∙◌}
use mathlib.Core.Bool.{Bool, true, false, cond, not}
use mathlib.Core.List.{List, [], ◌++◌, append-nil}
use Prim.Native.Nat.{ℕ}
use Rattle.std.specs.Prelude.{Option, Some, None}
use Rattle.time.specs.declared.Time.{Time}
use Rattle.control.specs.Verify.{sense_due}
use Rattle.registers.specs.declared.Registers.{Registers}
use Rattle.registers.specs.declared.Call.TheVariants.{Read8, Read16}
use Rattle.registers.specs.Access.{settled}
use Rattle.registers.specs.Pulses.{pulse, normal, tripped, read8}
use Rattle.registers.specs.Calls.{next, settles, ending}
use Rattle.registers.proofs.Laws.{settled-pulse, settled-due, tripped-closed, read8-again, read16-read8}
use Rattle.settle.specs.Settling.{settled_by, ended, end_words, same_pulse, sensed_by}
use Rattle.settle.proofs.Loop.{changes-same}
use Rattle.registers.specs.declared.Pulse.{Pulse}
use Rattle.flash.specs.Chip.{Chip, Step, registers, step_if, step}

-- ---- what a byte read that is not served leaves in the registers

module _ (now : Time) (r : Registers) (n : normal now r ≡ false) where
  read-closed : pulse (read8 now r) ≡ None
  unfolding read8
  read-closed = rw n (rw (settled-pulse now r) at (tripped-closed now (settled now r)))

  read-due : sense_due (read8 now r).verify_pending (read8 now r).supply now ≡ false
  unfolding read8
  read-due = rw n (by (pulse r))
    where
      by : (o : Option Pulse) → sense_due (tripped o now (settled now r)).verify_pending (tripped o now (settled now r)).supply now ≡ false
      by None = settled-due now r
      by (Some p) = settled-due now r

-- ---- the second read

abbrev nothing : Chip → Step
nothing k = record { chip = k; events = [] }

-- settled to now, without a pulse or a sense that is due, a read that leaves the registers leaves the whole chip
read-nothing : (b : ℕ) (now : Time) (k : Chip) → k.flash.pulse_since ≡ now → pulse (registers k) ≡ None
    → sense_due (registers k).verify_pending (registers k).supply now ≡ false → read8 now (registers k) ≡ registers k
    → step (Read8 b) now k ≡ nothing k
unfolding step step_if next settled_by sensed_by end_words same_pulse
read-nothing b now k t p d e = by (settles (Read8 b) now (registers k))
  where
    by : (s : Bool) → step_if s (Read8 b) now k ≡ nothing k
    by true = rw (e, p, d, changes-same 0 k.array, ← t)
    by false = rw e

-- ---- both reads

-- a word read ends a pulse as a byte read does: neither writes F020
word-ends : (a : ℕ) (now : Time) (r : Registers) → end_words (Read16 a) now r ≡ end_words (Read8 a) now r
unfolding end_words next ended ending
word-ends a now r = rw (read16-read8 now r) (ap (λ (es : List ℕ). cond (same_pulse (pulse r) (pulse (read8 now r))) [] es) (by (pulse r)))
  where
    by : (o : Option Pulse) → ended (Read16 a) (read8 now r).control o ≡ ended (Read8 a) (read8 now r).control o
    by None = refl
    by (Some p) = refl

-- and does the same to the chip
word_byte : (a : ℕ) (now : Time) (k : Chip) → step (Read16 a) now k ≡ step (Read8 a) now k
unfolding step settles step_if next
word_byte a now k = by (not (normal now (registers k)))
  where
    by : (s : Bool) → step_if s (Read16 a) now k ≡ step_if s (Read8 a) now k
    by true = rw (read16-read8 now (registers k), word-ends a now (registers k))
    by false = rw (read16-read8 now (registers k))

module _ (a b : ℕ) (now : Time) (k : Chip) (n : normal now (registers k) ≡ false) where
  second : step (Read8 b) now (step (Read8 a) now k).chip ≡ nothing (step (Read8 a) now k).chip
  unfolding step step_if settles next
  second =
      let r = registers k in
      read-nothing b now (step (Read8 a) now k).chip (rw n) (rw n (read-closed now r n)) (rw n (read-due now r n)) (rw n (read8-again now r))

  pub word-two-reads : (step (Read16 a) now k).chip ≡ (step (Read8 b) now (step (Read8 a) now k).chip).chip
  word-two-reads = ap (λ (s : Step). s.chip) (word_byte a now k) ∙ sym (ap (λ (s : Step). s.chip) second)

  pub word-two-events : (step (Read16 a) now k).events ≡ (step (Read8 a) now k).events ++ (step (Read8 b) now (step (Read8 a) now k).chip).events
  word-two-events =
      ap (λ (s : Step). s.events) (word_byte a now k) ∙ sym (append-nil _)
      ∙ ap (λ (s : Step). (step (Read8 a) now k).events ++ s.events) (sym second)
