-- What a call answers, by whether it settles: the stored bytes, or what the settle left in the sensed ones. A second read at the same
-- time answers from the same sensed bytes: after the first no sense is due, and a pulse that it tripped is closed. So a word that is
-- not served is two byte reads. Assumes nothing.
use mathlib.Core.Path.{◌≡◌, refl, ap, sym, ◌∙◌}
use mathlib.Core.Bool.{Bool, true, false, cond, ◌&&◌, true≢false}
use mathlib.Core.List.{List}
use Prim.Native.Nat.{ℕ, suc, ◌%◌}
use native.Mathlib.Omega.{arith}
use lib.Dec.{eqb}
use borrow.Author.Tests.{eqb-true, not-false, not-true}
use Rattle.std.specs.Prelude.{Option, Some, None}
use Rattle.time.specs.declared.Time.{Time}
use Rattle.control.specs.Bits.{PSU, ESU, has, low, verifies}
use Rattle.registers.specs.declared.Registers.{Registers}
use Rattle.registers.specs.declared.Pulse.{Pulse}
use Rattle.registers.specs.declared.Call.{Call}
use Rattle.registers.specs.declared.Call.TheVariants.{WriteRegister, Write8, Read8, Read16, Protect, Reset, PowerOff, Environment}
use Rattle.registers.specs.Access.{settled}
use Rattle.registers.specs.Pulses.{powered, program_pulse, erase_pulse, pulse, is_open, normal, tripped, read8}
use Rattle.registers.specs.Calls.{settles, next}
use Rattle.registers.proofs.Laws.{settled-fields, settled-pulse, settled-due, low-closed}
use Rattle.settle.specs.Pages.{Cells}
use Rattle.settle.specs.Settling.{sensed_by}
use Rattle.flash.specs.Chip.{Chip, registers, sensed_at, step_if, step, verified, unserved, byte_read, word_read, answer, stored_answer, settled_answer}

-- under an open pulse the low four bits are P or E, so neither PV nor EV is alone
open-verifies : (r : Registers) (p : Pulse) → pulse r ≡ Some p → verifies r.control ≡ false
unfolding pulse
open-verifies r p e = by (powered r) (eqb (low r.control) 1) (eqb (low r.control) 2) refl refl (ap is_open e)
  where
    by : (w a b : Bool) → eqb (low r.control) 1 ≡ a → eqb (low r.control) 2 ≡ b
        → is_open (cond w (cond (a && has r.control PSU) (Some (program_pulse r)) (cond (b && has r.control ESU) (Some (erase_pulse r)) None)) None) ≡ true
        → verifies r.control ≡ false
    by false a b h k o = absurd (true≢false (sym o))
    by true true b h k o = rw (eqb-true (low r.control) 1 h)
    by true false true h k o = rw (eqb-true (low r.control) 2 k)
    by true false false h k o = absurd (true≢false (sym o))

-- nor is reading normal
open-unread : (r : Registers) (p : Pulse) → pulse r ≡ Some p → eqb (r.control % 64) 0 ≡ false
open-unread r p e = by (eqb (r.control % 64) 0) refl
  where
    by : (b : Bool) → eqb (r.control % 64) 0 ≡ b → b ≡ false
    by true h =
        let z : r.control % 64 ≡ 0 = eqb-true (r.control % 64) 0 h in
        absurd (true≢false (ap is_open (sym e ∙ low-closed r (omega arith))))
    by false h = refl

module _ (b : ℕ) (now : Time) (r : Registers) where
  settled-normal : normal now (settled now r) ≡ normal now r
  unfolding normal
  settled-normal = ap (normal now) (settled-fields now r)

  settled-verified : (sensed : List ℕ) → verified b now (settled now r) sensed ≡ verified b now r sensed
  unfolding verified
  settled-verified sensed = ap (λ x. verified b now x sensed) (settled-fields now r)

  settled-sensed : (c : Cells) (sensed : List ℕ) → sensed_by (settled now r) now c sensed ≡ sensed
  unfolding sensed_by
  settled-sensed c sensed = rw (settled-due now r)

  settled-control : (settled now r).control ≡ r.control
  settled-control = ap (λ x. x.control) (settled-fields now r)

  -- a read after one that settled, whichever pulse that found
  after_one : (o : Option Pulse) → pulse r ≡ o → normal now r ≡ false → (x : ℕ) (c : Cells) (sensed : List ℕ)
      → cond (normal now (tripped o now (settled now r))) x
      (unserved b now (pulse (tripped o now (settled now r))) (tripped o now (settled now r)) (sensed_by (tripped o now (settled now r)) now c sensed))
      ≡ unserved b now o r sensed
  unfolding normal pulse verified
  after_one None e n x c sensed = rw (settled-normal, n, settled-pulse now r, e, settled-sensed c sensed) (settled-verified sensed)
  after_one (Some p) e n x c sensed = rw (settled-control, open-unread r p e, open-verifies r p e)

pub read_again : (a b : ℕ) (now : Time) (k : Chip) → normal now (registers k) ≡ false
    → byte_read b now (step (Read8 a) now k).chip ≡ unserved b now (pulse (registers k)) (registers k) (sensed_at now k)
unfolding byte_read step step_if settles next read8
read_again a b now k n = rw n (rw n (after_one b now (registers k) (pulse (registers k)) refl n _ _ _))

-- the answer of a call that settles
pub settled-value : (c : Call) (now : Time) (k : Chip) → settles c now (registers k) ≡ true
    → answer c now k ≡ settled_answer c now (pulse (registers k)) (registers k) (sensed_at now k)
unfolding answer settles byte_read word_read
settled-value (WriteRegister a v) now k e = refl
settled-value (Write8 a v) now k e = refl
settled-value (Read8 a) now k e = rw (not-true (normal now (registers k)) e)
settled-value (Read16 a) now k e = let n = not-true (normal now (registers k)) e in rw (n, read_again a (suc a) now k n)
settled-value Protect now k e = refl
settled-value Reset now k e = refl
settled-value PowerOff now k e = refl
settled-value (Environment mode modul oscillator) now k e = refl

-- and of one that does not
pub stored-value : (c : Call) (now : Time) (k : Chip) → settles c now (registers k) ≡ false → answer c now k ≡ stored_answer c k.array
unfolding answer settles byte_read word_read
stored-value (WriteRegister a v) now k e = refl
stored-value (Write8 a v) now k e = refl
stored-value (Read8 a) now k e = rw (not-false (normal now (registers k)) e)
stored-value (Read16 a) now k e = rw (not-false (normal now (registers k)) e)
stored-value Protect now k e = refl
stored-value Reset now k e = refl
stored-value PowerOff now k e = refl
stored-value (Environment mode modul oscillator) now k e = refl
