-- Memory with a good record holds a chip in order; such a chip is written as memory with a good record, which reads back as the chip. An
-- accepted call leaves a chip in order, and keeps of its cells what every exposure keeps. Assumes nothing.
use mathlib.Core.Path.{◌≡◌}
use mathlib.Core.Bool.{Bool, true, false}
use mathlib.Core.List.{List}
use Prim.Native.Nat.{ℕ, ◌<◌}
use borrow.Author.Tests.{eq-eqb, not-false}
use lib.ListN.{length}
use Rattle.time.specs.declared.Time.{Time}
use Rattle.time.specs.Raw.{BeforeLastSecond}
use Rattle.lists.specs.Lists.{at}
use Rattle.registers.specs.declared.Call.{Call}
use Rattle.registers.specs.declared.Pulse.{Pulse}
use Rattle.registers.specs.Pulses.{pulse}
use Rattle.registers.specs.Calls.{settles}
use Rattle.settle.specs.Pages.{Cells}
use Rattle.settle.specs.Settling.{expose}
use Rattle.settle.proofs.Slots.{slots-from}
use Rattle.settle.proofs.Expose.{Ordered, Full, expose-ordered, expose-full, settled-keeps}
use Rattle.flash.specs.Chip.{Chip, registers, cells, settled_at, placed, step_if, step, fresh_flash}
use Rattle.flash.proofs.Fresh.{fresh-ordered}
use Rattle.layout.specs.Layout.{decoded, accepted}
use Rattle.layout.specs.Whole.{TimeFits, Fits, Sound}
use Rattle.layout.proofs.Back.{decoded-index, decoded-fits, written-reads-back, length-encoded, bytes-encoded}
use Rattle.layout.proofs.Accepted.{accepted-sound, accepted-encoded}
use Rattle.lent.specs.Memory.{Memory, chip_in, memory_of}
use Rattle.lent.proofs.Fitted.{sizes-fit}
use Rattle.ledger.specs.Claim.{Good}
use Rattle.ledger.proofs.Kept.{Arguments, fits-step, sound-step, fresh-fits, fresh-sound-state}

-- its state is in range and allowed, its slots are sound, its array is 49,152 bytes
pub record InOrder (k : Chip) : Type 0 where
  pub fits : Fits k.flash
  pub sound : Sound k.flash
  pub cells : Ordered (cells k)

-- ---- in memory

pub order-in : (m : Memory) → Good m → InOrder (chip_in m)
order-in m g =
    let s = sizes-fit (length m.bytes) (length m.array) (length m.charges) g.fits in
    let sound = accepted-sound m.bytes (not-false (accepted m.bytes) g.reads) in
    record {
      fits = decoded-fits m.bytes g.record_bytes;
      sound = sound;
      cells = record {
        slots = slots-from (decoded m.bytes).indices m.charges (decoded-index m.bytes) s.charges_long sound.slots;
        long = s.array_long;
        small = g.array_bytes;
      };
    }

module _ (k : Chip) (o : InOrder k) where
  pub order-good : Good (memory_of k)
  order-good =
      record {
        fits = rw (eq-eqb _ _ (length-encoded k.flash o.fits), eq-eqb _ _ o.cells.long, eq-eqb _ _ o.cells.slots.room);
        reads = rw (accepted-encoded k.flash o.fits o.sound);
        record_bytes = bytes-encoded k.flash;
        array_bytes = o.cells.small;
      }

  pub order-back : chip_in (memory_of k) ≡ k
  order-back = λ i. record { flash = written-reads-back k.flash o.fits i; array = k.array; charges = k.charges }

-- as `new` leaves it
pub fresh-order : (firmware charges : List ℕ) → length firmware ≡ 49152 → ((b : ℕ) → at firmware b < 256) → length charges ≡ 393216
    → InOrder (record { flash = fresh_flash; array = firmware; charges = charges })
unfolding fresh_flash
fresh-order firmware charges h small l =
    record { fits = fresh-fits; sound = fresh-sound-state; cells = fresh-ordered firmware charges small h l }

-- ---- a call

-- what every exposure keeps of cells in order, a settle and a call keep
abbrev pub Lasting : (Cells → Type 0) → Type 0
Lasting P = (p : Pulse) (latch : List ℕ) (l : ℕ) (c : Cells) → Ordered c → P c → P (expose p latch l c)

module _ (P : Cells → Type 0) (e : Lasting P) (k : Chip) (now : Time) (s : Ordered (cells k)) (x : P (cells k)) where
  pub lasting-settled : P (settled_at now k)
  lasting-settled =
      settled-keeps (registers k).latch k.flash.pulse_since now (cells k) P (λ p l. e p (registers k).latch l (cells k) s x) x (pulse (registers k))

  pub lasting-step : (c : Call) → P (cells (step c now k).chip)
  unfolding step step_if
  lasting-step c = by (settles c now (registers k))
    where
      by : (b : Bool) → P (cells (step_if b c now k).chip)
      by true = lasting-settled
      by false = x

pub ordered-lasting : Lasting Ordered
ordered-lasting p latch l c s x = expose-ordered p latch l c s

pub full-lasting : Lasting Full
full-lasting p latch l c s f = expose-full p latch l c s.slots f

pub order-step : (c : Call) (now : Time) (k : Chip) → Arguments c → TimeFits now → BeforeLastSecond now → placed c ≡ true → InOrder k
    → InOrder (step c now k).chip
order-step c now k g f b e o =
    record {
      fits = fits-step c now k g f b o.cells.slots o.fits;
      sound = sound-step c now k e o.cells.slots o.sound;
      cells = lasting-step Ordered ordered-lasting k now o.cells o.cells c;
    }
