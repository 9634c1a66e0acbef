-- The page index that a call leaves reads back from its record, whatever the record's other numbers are: latch and sensed bytes keep their
-- lengths, so the index keeps its place, and its entries are 384 at most. Assumes nothing.
use mathlib.Core.Path.{◌≡◌, refl, ap, ◌∙◌}
use mathlib.Core.Bool.{Bool, true, false, ◌&&◌}
use mathlib.Core.List.{List}
use Prim.Native.Nat.{ℕ, zero, suc, ◌%◌, ◌^◌, ◌<◌}
use native.Mathlib.Omega.{arith}
use lib.Dec.{eqb}
use lib.ListN.{length, length-set}
use Rattle.std.specs.Prelude.{Option, Some, None}
use Rattle.lists.proofs.Bools.{either}
use Rattle.time.specs.declared.Time.{Time}
use Rattle.lists.specs.Lists.{at}
use Rattle.control.specs.Bits.{FENR, FLMCR1, FLPWCR, EBR1, SWE, has, low, verifies}
use Rattle.control.specs.Waits.{reached}
use Rattle.control.specs.Verify.{sense_due}
use Rattle.registers.specs.declared.Registers.{Registers}
use Rattle.registers.specs.declared.Call.{Call}
use Rattle.registers.specs.declared.Call.TheVariants.{WriteRegister, Write8, Read8, Read16, Protect, Reset, PowerOff, Environment}
use Rattle.registers.specs.Access.{settled, control_set, register_set, write_register}
use Rattle.registers.specs.Latch.{takes_data, data_taken, data_write, write8}
use Rattle.registers.specs.Pulses.{pulse, is_open, normal, tripped, protect, read8}
use Rattle.registers.specs.Environment.{blank_latch, reset, power_off, unchanged, clears, environment_set, environment}
use Rattle.registers.specs.Calls.{next, settles}
use Rattle.registers.proofs.Laws.{settled-latch, read16-read8}
use Rattle.settle.specs.Pages.{Cells}
use Rattle.settle.specs.Settling.{four_sensed, sensed_by}
use Rattle.settle.proofs.Slots.{Slots, SlotsOf, opened-le}
use Rattle.settle.proofs.Expose.{settled-slots}
use Rattle.flash.specs.declared.Flash.{Flash}
use Rattle.flash.specs.Chip.{Chip, registers, cells, blank_sensed, sensed_after, step_if, step}
use Rattle.rows.specs.Rows.{Fills}
use Rattle.layout.specs.Layout.{latch_row, sensed_row, index_row, layout, head_of, addresses_of, halves_of, rows_of, state_of, registers_of, encoded, rows_in, decoded}
use Rattle.registers.specs.declared.Pulse.{Pulse}
use Rattle.rows.proofs.Packed.{length-row_in, part-packed}

-- ---- the index in a record

-- an entry is 0 or a slot's number plus 1, and there are 384 slots
pub index-fits : {index charges : List ℕ} → Slots index charges → Fills index_row index
index-fits {index} inv = record { long = inv.pages; small = λ k. by k (at index k) refl }
  where
    by : (k v : ℕ) → at index k ≡ v → v < 256 ^ 2
    by k zero e = omega arith
    by k (suc s) e = omega (arith, inv.below k s e, opened-le index, inv.pages)

pub record Long (s : Flash) : Type 0 where
  pub latch : length s.registers.latch ≡ latch_row.count
  pub sensed : length s.sensed ≡ sensed_row.count

pub decoded-long : (xs : List ℕ) → Long (decoded xs)
unfolding decoded state_of registers_of rows_in
decoded-long xs = record { latch = length-row_in layout 3 xs; sensed = length-row_in layout 4 xs }

index_back : (s : Flash) {charges : List ℕ} → Long s → Slots s.indices charges → (decoded (encoded s)).indices ≡ s.indices
unfolding decoded state_of rows_in encoded rows_of head_of addresses_of halves_of
index_back s l inv =
    part-packed layout (rows_of s) 5 (omega arith) (refl, (refl, (refl, (l.latch, (l.sensed, tt))))) (index-fits inv)

-- ---- a call keeps the lengths

abbrev LatchLong : Registers → Type 0
LatchLong r = length r.latch ≡ latch_row.count

module _ (now : Time) (r : Registers) (h : LatchLong r) where
  settled-long : LatchLong (settled now r)
  settled-long = ap length (settled-latch now r) ∙ h

  tripped-long : (o : Option Pulse) → LatchLong (tripped o now (settled now r))
  tripped-long None = settled-long
  tripped-long (Some p) = settled-long

  read-long : LatchLong (read8 now r)
  unfolding read8
  read-long = either LatchLong (normal now r) h (tripped-long (pulse r))

  next-long : (c : Call) → LatchLong (next c now r)
  unfolding next write_register register_set control_set write8 data_write data_taken protect reset power_off blank_latch environment environment_set
  next-long (WriteRegister a v) =
      let s = settled-long in
      either LatchLong (eqb a FENR) h
      (either LatchLong r.enabled
      (either LatchLong (eqb a FLMCR1) s
      (either LatchLong (eqb a FLPWCR) s
      (either LatchLong (eqb a EBR1) (either LatchLong (has (settled now r).control SWE) s s) s))) h)
  next-long (Write8 a v) =
      let s = settled-long in
      let r' = settled now r in
      either LatchLong (takes_data now r')
      (either LatchLong (eqb (low r'.control) 0 && reached now r'.recovery) (length-set r'.latch (a % 128) v ∙ s)
      (either LatchLong (verifies r'.control) s s)) s
  next-long (Read8 a) = read-long
  next-long (Read16 a) = rw (read16-read8 now r) read-long
  next-long Protect = either LatchLong (is_open (pulse r)) (tripped-long (pulse r)) h
  next-long Reset = refl
  next-long PowerOff = refl
  next-long (Environment mode modul oscillator) =
      let s = settled-long in
      either LatchLong (unchanged mode modul oscillator r) h (either LatchLong (clears mode modul r) s s)

sensed-long : (r : Registers) (now : Time) (c : Cells) (old : List ℕ) → length old ≡ sensed_row.count → length (sensed_by r now c old) ≡ sensed_row.count
unfolding sensed_by four_sensed
sensed-long r now c old h =
    either (λ (xs : List ℕ). length xs ≡ sensed_row.count) (sense_due r.verify_pending r.supply now && verifies r.control) refl h

after-long : (c : Call) (sensed : List ℕ) → length sensed ≡ sensed_row.count → length (sensed_after c sensed) ≡ sensed_row.count
unfolding blank_sensed
after-long (WriteRegister a v) sensed h = h
after-long (Write8 a v) sensed h = h
after-long (Read8 a) sensed h = h
after-long (Read16 a) sensed h = h
after-long Protect sensed h = h
after-long Reset sensed h = refl
after-long PowerOff sensed h = refl
after-long (Environment mode modul oscillator) sensed h = h

module _ (c : Call) (now : Time) (k : Chip) where
  step-long : Long k.flash → Long (step c now k).chip.flash
  unfolding step step_if
  step-long l = by (settles c now (registers k))
    where
      by : (b : Bool) → Long (step_if b c now k).chip.flash
      by false = record { latch = next-long now (registers k) l.latch c; sensed = l.sensed }
      by true =
          record {
            latch = next-long now (registers k) l.latch c;
            sensed = after-long c _ (sensed-long (registers k) now _ k.flash.sensed l.sensed);
          }

  step-slots : SlotsOf (cells k) → SlotsOf (cells (step c now k).chip)
  unfolding step step_if
  step-slots inv = by (settles c now (registers k))
    where
      by : (b : Bool) → SlotsOf (cells (step_if b c now k).chip)
      by false = inv
      by true = settled-slots (registers k).latch k.flash.pulse_since now (cells k) (pulse (registers k)) inv

  pub step-index : Long k.flash → SlotsOf (cells k)
      → (decoded (encoded (step c now k).chip.flash)).indices ≡ (step c now k).chip.flash.indices
  step-index l inv = index_back (step c now k).chip.flash (step-long l) (step-slots inv)
