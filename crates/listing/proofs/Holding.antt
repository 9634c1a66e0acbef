-- A chip that is held between two calls of a list: what a call in range leaves is such a chip again. Assumes nothing.
use mathlib.Core.Path.{◌≡◌, refl, ◌∙◌}
use mathlib.Core.Bool.{Bool, true, false}
use mathlib.Core.List.{List}
use Prim.Native.Nat.{ℕ, zero, suc}
use lib.ListN.{length}
use Rattle.time.specs.declared.Time.{Time}
use Rattle.cell.specs.Cell.{array_bytes, array_cells}
use Rattle.registers.specs.declared.Call.{Call}
use Rattle.registers.specs.Pulses.{pulse}
use Rattle.registers.specs.Calls.{settles}
use Rattle.settle.proofs.Slots.{SlotsOf, slots-from}
use Rattle.settle.proofs.Expose.{settled-slots, settled-array-length}
use Rattle.flash.specs.Chip.{Chip, registers, cells, step_if, step}
use Rattle.layout.specs.Whole.{TimeFits}
use Rattle.lent.specs.declared.Request.{Request}
use Rattle.lent.specs.Memory.{memory_of}
use Rattle.lent.specs.Asked.{call_of, call_refusal, outcome}
use Rattle.lent.specs.Held.{Ready, Reply, reply_by, reply, written}
use Rattle.lent.proofs.Tells.{passes}
use Rattle.lent.proofs.Holding.{outcome-held}
use Rattle.ledger.specs.Lists.{Numbers}
use Rattle.ledger.proofs.Kept.{fits-step, sound-step, numbers-arguments}

-- a call on a chip, over its memory too
pub record Called (q : Request) (t : Time) (words : List ℕ) (k : Chip) (r : Reply) : Type 0 where
  pub outcome_is : outcome q t words (memory_of k) ≡ written r
  pub ready : Ready r.left

module _ (k : Chip) (h : Ready k) where
  slots-held : SlotsOf (cells k)
  slots-held = slots-from k.flash.indices k.charges h.fits.indices.long h.charges_long h.sound.slots

  step-lengths : (c : Call) (t : Time) → (length (step c t k).chip.array ≡ array_bytes) × (length (step c t k).chip.charges ≡ array_cells)
  unfolding step step_if
  step-lengths c t = by (settles c t (registers k))
    where
      by : (b : Bool) → (length (step_if b c t k).chip.array ≡ array_bytes) × (length (step_if b c t k).chip.charges ≡ array_cells)
      by false = (h.array_long, h.charges_long)
      by true = (
        settled-array-length (registers k).latch k.flash.pulse_since t (cells k) (pulse (registers k)) ∙ h.array_long,
        (settled-slots (registers k).latch k.flash.pulse_since t (cells k) (pulse (registers k)) slots-held).room,
      )

  module _ (q : Request) (t : Time) (words : List ℕ) (numbers : Numbers q) (time : TimeFits t) where
    left-ready : Ready (reply q t words k).left
    unfolding reply reply_by
    left-ready = by (call_refusal q t (length words) k.flash) refl
      where
        by : (n : ℕ) → call_refusal q t (length words) k.flash ≡ n → Ready (reply_by n q t words k).left
        by zero e =
            let s = passes q t (length words) k.flash e in
            let l = step-lengths (call_of q) t in
            record {
              fits = fits-step (call_of q) t k (numbers-arguments q numbers) time s.in_time slots-held h.fits;
              sound = sound-step (call_of q) t k s.placed_is slots-held h.sound;
              array_long = l.0;
              charges_long = l.1;
            }
        by (suc n) e = h

    pub called : {r : Reply} → r ≡ reply q t words k → Called q t words k r
    called e = rw e (record { outcome_is = outcome-held k h q t words; ready = left-ready })
