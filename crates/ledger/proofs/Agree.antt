-- Chip and ledger agree: the ledger's registers are the chip's, and each cell's charge is what the ledger looks up at the last settling.
-- Every accepted call keeps that, a call that does not settle since it leaves the pulse, any other since settling to now and booking to
-- now are the same. It asks for sound slots alone. Where the array is the sensing of its cells, image, stored bytes and served reads are
-- that of the ledger's charges. Assumes nothing.
use mathlib.Core.Path.{◌≡◌, refl, sym, ap, ap₂, ◌∙◌}
use mathlib.Core.Bool.{Bool, true, false}
use mathlib.Core.List.{◌++◌, append-nil}
use Prim.Native.Nat.{ℕ, suc, ◌+◌, ◌*◌, ◌<◌, ◌≤◌}
use native.Mathlib.Nat.{le_refl}
use native.Mathlib.Omega.{arith}
use Rattle.std.specs.Prelude.{None}
use Rattle.time.specs.declared.Time.{Time}
use Rattle.time.specs.Raw.{raw}
use Rattle.lists.specs.Lists.{at}
use Rattle.registers.specs.declared.Registers.{Registers}
use Rattle.registers.specs.declared.Call.{Call}
use Rattle.registers.specs.Pulses.{pulse, normal}
use Rattle.registers.specs.Calls.{next, settles}
use Rattle.registers.proofs.Laws.{quiet, kept, normal-closed}
use Rattle.settle.specs.Pages.{Cells, cell_at}
use Rattle.settle.specs.Settling.{normal_byte, same_pulse, end_words}
use Rattle.flash.specs.Chip.{Chip, registers, cells, settled_at, step_if, step, byte_read, word_read}
use Rattle.settle.proofs.Slots.{SlotsOf}
use Rattle.settle.proofs.Expose.{Ordered, Senses, normal-same, expose-senses}
use Rattle.ledger.specs.Ledger.{Ledger, booked, look, entered_if, entered}
use Rattle.ledger.proofs.Order.{lasting-settled}
use Rattle.ledger.proofs.Book.{same-pulse, pulse-same, settle-closed, book-now, settle-book, book-kept}

-- what holds of chip and ledger between calls
pub record Agree (k : Chip) (led : Ledger) : Type 0 where
  pub registers : led.registers ≡ k.flash.registers
  pub cells : (i : ℕ) → i < 393216 → cell_at (cells k) i ≡ look k.flash.pulse_since led i
  pub opened : raw led.opened ≤ raw k.flash.pulse_since

-- ---- looking

module _ {k : Chip} {led : Ledger} (inv : SlotsOf (cells k)) (a : Agree k led) where
  pub look-settled : (t : Time) → raw k.flash.pulse_since ≤ raw t → (i : ℕ) → i < 393216 → cell_at (settled_at t k) i ≡ look t led i
  unfolding look
  look-settled t h i l =
      settle-book (pulse (registers k)) (registers k).latch led.opened k.flash.pulse_since t led.charge (cells k) inv a.opened h i l
      (a.cells i l ∙ ap (λ (r : Registers). booked (pulse r) r.latch led.opened k.flash.pulse_since led.charge i) a.registers)
      ∙ ap (λ (r : Registers). booked (pulse r) r.latch led.opened t led.charge i) (sym a.registers)

-- the stored array is the normal sensing at the last settling
pub stored-settled : {k : Chip} {led : Ledger} → Senses (cells k) → Agree k led → (b : ℕ) → b < 49152
    → at k.array b ≡ normal_byte (look k.flash.pulse_since led) b
stored-settled {k} {led} n a b l =
    n b l ∙ normal-same (cell_at (cells k)) (look k.flash.pulse_since led) b (λ j m. a.cells (8 * b + j) (omega arith))

module _ {k : Chip} {led : Ledger} (s : Ordered (cells k)) (n : Senses (cells k)) (a : Agree k led) (t : Time) (h : raw k.flash.pulse_since ≤ raw t) where
  pub image-settled : (b : ℕ) → b < 49152 → at (settled_at t k).array b ≡ normal_byte (look t led) b
  image-settled b l =
      lasting-settled Senses expose-senses k t s n b l
      ∙ normal-same (cell_at (settled_at t k)) (look t led) b (λ j m. look-settled s.slots a t h (8 * b + j) (omega arith))

  -- the stored array is as settled while no pulse is open
  stored-closed : pulse (registers k) ≡ None → (b : ℕ) → b < 49152 → at k.array b ≡ normal_byte (look t led) b
  stored-closed e b l =
      ap (λ (c : Cells). at c.array b) (sym (settle-closed (pulse (registers k)) (registers k).latch k.flash.pulse_since t (cells k) e))
      ∙ image-settled b l

  -- which is what normal reading serves
  pub served_byte : normal t (registers k) ≡ true → (b : ℕ) → b < 49152 → byte_read b t k ≡ normal_byte (look t led) b
  unfolding byte_read
  served_byte e b l = rw e (stored-closed (normal-closed t (registers k) e) b l)

  pub served_word : normal t (registers k) ≡ true → (b : ℕ) → suc b < 49152
      → word_read b t k ≡ 256 * normal_byte (look t led) b + normal_byte (look t led) (suc b)
  unfolding word_read
  served_word e b l =
      let o = normal-closed t (registers k) e in
      rw e (ap₂ (λ (x y : ℕ). 256 * x + y) (stored-closed o b (omega arith)) (stored-closed o (suc b) l))

-- ---- one call

module _ {k : Chip} {led : Ledger} (c : Call) (now : Time) (a : Agree k led) where
  -- in registers like the chip's a call that does not settle leaves the pulse
  quiet-pulse : settles c now (registers k) ≡ false → pulse (next c now led.registers) ≡ pulse led.registers
  quiet-pulse e = quiet c now led.registers (rw a.registers e)

  -- if the pulse stays, the call books nothing
  stays-booked : pulse (next c now led.registers) ≡ pulse led.registers → (t : Time) (i : ℕ)
      → look t led i ≡ look t (entered_if true c now led) i
  unfolding look entered_if
  stays-booked e t i =
      book-kept (pulse led.registers) (pulse (next c now led.registers)) led.registers.latch (next c now led.registers).latch e
      (λ p h. kept c now led.registers p h (e ∙ h)) led.opened t led.charge i

  quiet_step : settles c now (registers k) ≡ false → Agree (step_if false c now k).chip (entered c now led)
  unfolding step_if entered entered_if
  quiet_step e =
      let q = quiet-pulse e in
      rw (q, pulse-same (pulse led.registers))
      (record {
        registers = ap (next c now) a.registers;
        opened = a.opened;
        cells = λ i l. a.cells i l ∙ stays-booked q k.flash.pulse_since i;
      })

  module _ (inv : SlotsOf (cells k)) (h : raw k.flash.pulse_since ≤ raw now) where
    loud-step : Agree (step_if true c now k).chip (entered c now led)
    unfolding step_if entered entered_if look
    loud-step = by (same_pulse (pulse led.registers) (pulse (next c now led.registers))) refl
      where
        by : (b : Bool) → same_pulse (pulse led.registers) (pulse (next c now led.registers)) ≡ b
            → Agree (step_if true c now k).chip (entered_if b c now led)
        by true e =
            record {
              registers = ap (next c now) a.registers;
              opened = omega (arith, a.opened);
              cells = λ i l. look-settled inv a now h i l ∙ stays-booked (sym (same-pulse (pulse led.registers) (pulse (next c now led.registers)) e)) now i;
            }
        by false e =
            record {
              registers = ap (next c now) a.registers;
              opened = le_refl (raw now);
              cells = λ i l. look-settled inv a now h i l
                  ∙ sym (book-now (pulse (next c now led.registers)) (next c now led.registers).latch now (look now led) i);
            }

    pub agree-step : Agree (step c now k).chip (entered c now led)
    unfolding step
    agree-step = by (settles c now (registers k)) refl
      where
        by : (s : Bool) → settles c now (registers k) ≡ s → Agree (step_if s c now k).chip (entered c now led)
        by true e = loud-step
        by false e = quiet_step e

-- the ledger notes the end of the pulse that the call ends
pub entered-ends : (c : Call) (now : Time) (led : Ledger) → (entered c now led).ends ≡ led.ends ++ end_words c now led.registers
unfolding entered entered_if end_words
entered-ends c now led = by (same_pulse (pulse led.registers) (pulse (next c now led.registers))) refl
  where
    by : (b : Bool) → same_pulse (pulse led.registers) (pulse (next c now led.registers)) ≡ b
        → (entered_if b c now led).ends ≡ led.ends ++ end_words c now led.registers
    by true e = rw e (sym (append-nil led.ends))
    by false e = refl
