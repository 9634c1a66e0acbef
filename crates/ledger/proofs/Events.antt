-- A call's events, of a chip in order: its byte events are the changes of its array and give the array after it; the others are the end
-- of the pulse that it ends. Assumes nothing.
use mathlib.Core.Path.{◌≡◌, refl, sym, ap₂, ◌∙◌}
use mathlib.Core.Bool.{Bool, true, false}
use mathlib.Core.List.{List, ◌++◌, append-nil}
use Prim.Native.Nat.{ℕ, ◌+◌, ◌^◌, ◌≤◌, ◌<◌}
use native.Mathlib.Omega.{arith}
use lib.ListN.{length}
use Rattle.time.specs.declared.Time.{Time}
use Rattle.lists.specs.Lists.{at}
use Rattle.registers.specs.declared.Call.{Call}
use Rattle.registers.specs.Pulses.{pulse}
use Rattle.registers.specs.Calls.{settles}
use Rattle.registers.proofs.Laws.{quiet}
use Rattle.settle.specs.Settling.{changes, range_end, end_words}
use Rattle.settle.proofs.Loop.{changes-same}
use Rattle.settle.proofs.Expose.{Ordered}
use Rattle.flash.specs.Chip.{Chip, registers, settled_at, step_if, step}
use Rattle.flash.proofs.Inside.{pulse_inside}
use Rattle.ledger.specs.Words.{applied, bytes_in, ends_in}
use Rattle.ledger.proofs.Words.{applied-append, ends-append, bytes-append, changes-applied, ends-changes, bytes-changes, applied-end_words, ends-end_words, bytes-end_words}
use Rattle.ledger.proofs.Book.{pulse-same}
use Rattle.ledger.proofs.Order.{InOrder, lasting-settled, ordered-lasting}

-- a call that settles does so now; another leaves the array
pub step-now : (c : Call) (now : Time) (k : Chip) → settles c now (registers k) ≡ true → (step c now k).chip.flash.pulse_since ≡ now
unfolding step step_if
step-now c now k e = rw e

pub step-array : (c : Call) (now : Time) (k : Chip) → settles c now (registers k) ≡ false → (step c now k).chip.array ≡ k.array
unfolding step step_if
step-array c now k e = rw e

module _ (c : Call) (now : Time) (k : Chip) (o : InOrder k) where
  abbrev new : List ℕ
  new = (settled_at now k).array

  settled : Ordered (settled_at now k)
  settled = lasting-settled Ordered ordered-lasting k now o.cells o.cells

  inside : range_end (pulse (registers k)) ≤ 384
  inside = pulse_inside (registers k) o.sound.page_inside

  small : (b : ℕ) → at new b < 2 ^ 16
  small b = omega (arith, settled.small b)

  short : 0 + length k.array ≤ 2 ^ 16
  short = omega (arith, o.cells.long)

  pub step-applied : applied (step c now k).events k.array ≡ (step c now k).chip.array
  unfolding step step_if applied
  step-applied = by (settles c now (registers k))
    where
      by : (b : Bool) → applied (step_if b c now k).events k.array ≡ (step_if b c now k).chip.array
      by false = refl
      by true =
          applied-append (changes 0 k.array new) (end_words c now (registers k)) k.array
          ∙ applied-end_words c now (registers k) inside _
          ∙ changes-applied k.array new (o.cells.long ∙ sym settled.long) (omega (arith, o.cells.long)) small

  pub step-bytes : bytes_in (step c now k).events ≡ changes 0 k.array (step c now k).chip.array
  unfolding step step_if bytes_in
  step-bytes = by (settles c now (registers k))
    where
      by : (b : Bool) → bytes_in (step_if b c now k).events ≡ changes 0 k.array (step_if b c now k).chip.array
      by false = sym (changes-same 0 k.array)
      by true =
          bytes-append (changes 0 k.array new) (end_words c now (registers k))
          ∙ ap₂ (λ (x y : List ℕ). x ++ y) (bytes-changes 0 k.array new short small) (bytes-end_words c now (registers k) inside)
          ∙ append-nil _

  -- one that does not settle leaves the pulse
  pub step-ends : ends_in (step c now k).events ≡ end_words c now (registers k)
  unfolding step step_if ends_in end_words
  step-ends = by (settles c now (registers k)) refl
    where
      by : (b : Bool) → settles c now (registers k) ≡ b → ends_in (step_if b c now k).events ≡ end_words c now (registers k)
      by true e =
          ends-append (changes 0 k.array new) (end_words c now (registers k))
          ∙ ap₂ (λ (x y : List ℕ). x ++ y) (ends-changes 0 k.array new short small) (ends-end_words c now (registers k) inside)
      by false e = rw (quiet c now (registers k) e, pulse-same (pulse (registers k)))
