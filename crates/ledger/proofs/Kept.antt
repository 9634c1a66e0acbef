-- Every accepted call keeps the state in range and allowed, so that its record reads back. The registers go by `Values`, asked once what
-- their types say and once what is allowed; the index by its slots; sensed bytes are bytes. Assumes nothing.
use mathlib.Core.Path.{◌≡◌, refl, ◌∙◌}
use mathlib.Core.Bool.{Bool, true, false, ◌&&◌}
use mathlib.Core.List.{List, [], ◌∷◌}
use Prim.Native.Nat.{ℕ, zero, suc, ◌+◌, ◌*◌, ◌%◌, ◌^◌, ◌<◌}
use native.Mathlib.Omega.{arith}
use borrow.Author.Tests.{ltb-true}
use lib.Pow.{shr_lt}
use lib.ListN.{set, replicate, length-set, length-replicate}
use Rattle.lists.proofs.Bools.{either}
use Rattle.time.specs.declared.Time.{Time}
use Rattle.time.specs.Raw.{instant, plus, micros, after, BeforeLastSecond}
use Rattle.time.proofs.Laws.{micros-short, sum_fits}
use Rattle.cell.specs.declared.Sense.{Sense}
use Rattle.lists.specs.Lists.{at, mapi}
use Rattle.cell.proofs.Sensed.{sensed_byte-lt}
use Rattle.control.specs.Bits.{verifies}
use Rattle.control.specs.Verify.{sense_due}
use Rattle.registers.specs.declared.Registers.{Registers}
use Rattle.registers.specs.declared.Call.{Call}
use Rattle.registers.specs.declared.Call.TheVariants.{WriteRegister, Write8, Read8, Read16, Protect, Reset, PowerOff, Environment}
use Rattle.registers.specs.Pulses.{pulse}
use Rattle.registers.specs.Environment.{blank_latch, fresh}
use Rattle.registers.specs.Calls.{next, settles}
use Rattle.settle.specs.Pages.{Cells, cell_at, opened, within, distinct, slots_sound}
use Rattle.settle.specs.Settling.{four_sensed, sensed_by, sense_address, verify_sense}
use Rattle.flash.specs.Chip.{Chip, registers, cells, settled_at, sensed_at, placed, blank_sensed, sensed_after, step_if, step, no_pages, fresh_flash}
use Rattle.settle.proofs.Slots.{SlotsOf, slots-sound}
use Rattle.settle.proofs.Expose.{settled-slots}
use Rattle.rows.specs.Rows.{RowFits, Fills}
use Rattle.layout.specs.Layout.{latch_row, sensed_row}
use Rattle.layout.specs.Whole.{TimeFits, PendingFits, RegistersFit, Fits, PendingSound, Sound}
use Rattle.lent.specs.declared.Request.{Request}
use Rattle.lent.specs.declared.Request.TheVariants as asks
use Rattle.lent.specs.Asked.{call_of}
use Rattle.snapshot.proofs.IndexBack.{index-fits}
use Rattle.ledger.specs.Lists.{Numbers}
use Rattle.ledger.proofs.Values.{Ask, HeldBy, Anew, Given, next-held}

-- what the types of the host functions say of a call's arguments
abbrev pub Arguments : Call → Type 0
Arguments (WriteRegister a v) = (a < 2 ^ 16) × (v < 2 ^ 8)
Arguments (Write8 a v) = (a < 2 ^ 16) × (v < 2 ^ 8)
Arguments (Read8 a) = a < 2 ^ 16
Arguments (Read16 a) = a < 2 ^ 16
Arguments Protect = Unit
Arguments Reset = Unit
Arguments PowerOff = Unit
Arguments (Environment mode modul oscillator) = Unit

-- ---- rows

replicate-fits : (n w v : ℕ) → v < 256 ^ w → RowFits n w (replicate n v)
replicate-fits n w v h = record { long = length-replicate n v; small = small n }
  where
    small : (n k : ℕ) → at (replicate n v) k < 256 ^ w
    small zero k = omega arith
    small (suc n) zero = h
    small (suc n) (suc k) = small n k

set-fits : (n w v i : ℕ) (xs : List ℕ) → v < 256 ^ w → RowFits n w xs → RowFits n w (set xs i v)
set-fits n w v i xs h f = record { long = length-set xs i v ∙ f.long; small = small xs i f.small }
  where
    small : (xs : List ℕ) (i : ℕ) → ((k : ℕ) → at xs k < 256 ^ w) → (k : ℕ) → at (set xs i v) k < 256 ^ w
    small [] i g k = g k
    small (x ∷ xs) zero g zero = h
    small (x ∷ xs) zero g (suc k) = g (suc k)
    small (x ∷ xs) (suc i) g zero = g 0
    small (x ∷ xs) (suc i) g (suc k) = small xs i (λ k. g (suc k)) k

mapi-small : (f : ℕ → ℕ → ℕ) (m : ℕ) → 0 < m → ((k x : ℕ) → f k x < m) → (i : ℕ) (xs : List ℕ) (k : ℕ) → at (mapi f i xs) k < m
mapi-small f m l h i [] k = l
mapi-small f m l h i (x ∷ xs) zero = h i x
mapi-small f m l h i (x ∷ xs) (suc k) = mapi-small f m l h (suc i) xs k

four-fits : (m : Sense) (a : ℕ) (c : Cells) → Fills sensed_row (four_sensed m a c)
unfolding four_sensed
four-fits m a c =
    record {
      long = refl;
      small = mapi-small _ 256 (omega arith) (λ k x. sensed_byte-lt m (a + k) (λ j. cell_at c (8 * (a + k) + j))) 0 (replicate 4 0);
    }

-- ---- times

zero-fits : TimeFits (instant 0)
unfolding instant
zero-fits = record { whole = omega arith; part = omega arith }

after-fits : (now : Time) → TimeFits now → BeforeLastSecond now → (n : ℕ) → n < 1000000 → TimeFits (after now n)
unfolding after plus instant
after-fits now f b n h =
    record { whole = shr_lt 64 64 (sum_fits now (micros n) b f.part (micros-short n h)); part = omega arith }

-- ---- in range

abbrev in_range : Ask
in_range =
    record {
      control = λ c. c < 256;
      erase = λ e. e < 256;
      latch = Fills latch_row;
      page = λ p. p < 2 ^ 16;
      time = TimeFits;
      pending = PendingFits;
    }

range-given : (c : Call) → Arguments c → Given in_range c
range-given (WriteRegister a v) h = h.1
range-given (Write8 a v) h =
    record {
      latch = λ xs i f. set-fits 128 1 v i xs h.1 f;
      page = omega (arith, h.0);
      pending = λ t f. (omega (arith, h.0), f);
    }
range-given (Read8 a) h = tt
range-given (Read16 a) h = tt
range-given Protect h = tt
range-given Reset h = tt
range-given PowerOff h = tt
range-given (Environment mode modul oscillator) h = tt

range-anew : (now : Time) → TimeFits now → BeforeLastSecond now → Anew in_range now
unfolding blank_latch
range-anew now f b =
    record {
      control = λ v. omega arith;
      erase = omega arith;
      latch = replicate-fits 128 1 0xFF (omega arith);
      page = omega arith;
      present = f;
      wait = after-fits now f b;
      pending = tt;
    }

registers-fit : (c : Call) (now : Time) (r : Registers) → Arguments c → TimeFits now → BeforeLastSecond now → RegistersFit r
    → RegistersFit (next c now r)
registers-fit c now r g f b h =
    let k = next-held in_range now (range-anew now f b) c r (range-given c g)
    (record { control = h.control; erase = h.erase; latch = h.latch; page = h.page; ready = h.ready; swe_ready = h.swe_ready; program_ready = h.program_ready; erase_ready = h.erase_ready; recovery = h.recovery; verify_ready = h.verify_ready; pending = h.verify_pending }) in
    record { control = k.control; erase = k.erase; latch = k.latch; page = k.page; ready = k.ready; swe_ready = k.swe_ready; program_ready = k.program_ready; erase_ready = k.erase_ready; recovery = k.recovery; verify_ready = k.verify_ready; verify_pending = k.pending }

sensed-fit : (r : Registers) (now : Time) (c : Cells) (old : List ℕ) → Fills sensed_row old → Fills sensed_row (sensed_by r now c old)
unfolding sensed_by
sensed-fit r now c old h =
    either (Fills sensed_row) (sense_due r.verify_pending r.supply now && verifies r.control)
    (four-fits (verify_sense r.control) (sense_address r.verify_pending) c) h

blank-fits : Fills sensed_row blank_sensed
unfolding blank_sensed
blank-fits = replicate-fits 4 1 0xFF (omega arith)

after-sensed : (c : Call) (sensed : List ℕ) → Fills sensed_row sensed → Fills sensed_row (sensed_after c sensed)
after-sensed (WriteRegister a v) sensed h = h
after-sensed (Write8 a v) sensed h = h
after-sensed (Read8 a) sensed h = h
after-sensed (Read16 a) sensed h = h
after-sensed Protect sensed h = h
after-sensed Reset sensed h = blank-fits
after-sensed PowerOff sensed h = blank-fits
after-sensed (Environment mode modul oscillator) sensed h = h

slots-settled : (now : Time) (k : Chip) → SlotsOf (cells k) → SlotsOf (settled_at now k)
slots-settled now k inv = settled-slots (registers k).latch k.flash.pulse_since now (cells k) (pulse (registers k)) inv

pub fits-step : (c : Call) (now : Time) (k : Chip) → Arguments c → TimeFits now → BeforeLastSecond now → SlotsOf (cells k) → Fits k.flash
    → Fits (step c now k).chip.flash
unfolding step step_if
fits-step c now k g f b inv h = by (settles c now (registers k))
  where
    next_fits : RegistersFit (next c now (registers k))
    next_fits = registers-fit c now (registers k) g f b h.registers

    by : (s : Bool) → Fits (step_if s c now k).chip.flash
    by false = record { registers = next_fits; pulse_since = h.pulse_since; sensed = h.sensed; indices = h.indices }
    by true =
        record {
          registers = next_fits;
          pulse_since = f;
          sensed = after-sensed c (sensed_at now k) (sensed-fit (registers k) now (settled_at now k) k.flash.sensed h.sensed);
          indices = index-fits (slots-settled now k inv);
        }

pub fresh-fits : Fits fresh_flash
unfolding fresh_flash fresh blank_latch blank_sensed no_pages
fresh-fits =
    let z = zero-fits in
    record {
      registers = record { control = omega arith; erase = omega arith; latch = replicate-fits 128 1 0xFF (omega arith); page = omega arith; ready = z; swe_ready = z; program_ready = z; erase_ready = z; recovery = z; verify_ready = z; verify_pending = tt };
      pulse_since = z;
      sensed = replicate-fits 4 1 0xFF (omega arith);
      indices = replicate-fits 384 2 0 (omega arith);
    }

-- ---- allowed

abbrev allowed : Ask
allowed =
    record {
      control = λ c. c < 128;
      erase = λ e. Unit;
      latch = λ l. Unit;
      page = λ p. (p % 128 ≡ 0) × (p < 49152);
      time = λ t. Unit;
      pending = PendingSound;
    }

-- an aligned address in the array
allowed-given : (c : Call) → placed c ≡ true → Given allowed c
allowed-given (WriteRegister a v) e = tt
allowed-given (Write8 a v) e =
    let h : a < 49152 = ltb-true a 49152 e in
    record { latch = λ xs i f. tt; page = (omega arith, omega arith); pending = λ t f. (omega arith, omega arith) }
allowed-given (Read8 a) e = tt
allowed-given (Read16 a) e = tt
allowed-given Protect e = tt
allowed-given Reset e = tt
allowed-given PowerOff e = tt
allowed-given (Environment mode modul oscillator) e = tt

allowed-anew : (now : Time) → Anew allowed now
allowed-anew now =
    record { control = λ v. omega arith; erase = tt; latch = tt; page = (refl, omega arith); present = tt; wait = λ n h. tt; pending = tt }

pub sound-step : (c : Call) (now : Time) (k : Chip) → placed c ≡ true → SlotsOf (cells k) → Sound k.flash → Sound (step c now k).chip.flash
unfolding step step_if
sound-step c now k e inv h = by (settles c now (registers k))
  where
    kept : HeldBy allowed (next c now (registers k))
    kept =
        next-held allowed now (allowed-anew now) c (registers k) (allowed-given c e)
        (record { control = h.control; erase = tt; latch = tt; page = (h.page_aligned, h.page_inside); ready = tt; swe_ready = tt; program_ready = tt; erase_ready = tt; recovery = tt; verify_ready = tt; pending = h.pending })

    with-slots : (since : Time) (sensed index : List ℕ) → slots_sound index ≡ true
        → Sound (record (k.flash) { registers = next c now (registers k); pulse_since = since; sensed = sensed; indices = index })
    with-slots since sensed index s =
        record { control = kept.control; page_aligned = kept.page.0; page_inside = kept.page.1; pending = kept.pending; slots = s }

    by : (s : Bool) → Sound (step_if s c now k).chip.flash
    by false = with-slots _ _ _ h.slots
    by true = with-slots _ _ _ (slots-sound (slots-settled now k inv))

pub fresh-sound-state : Sound fresh_flash
unfolding fresh_flash fresh no_pages slots_sound opened within distinct
fresh-sound-state = record { control = omega arith; page_aligned = refl; page_inside = omega arith; pending = tt; slots = refl }

-- ---- what is asked for

pub numbers-arguments : (q : Request) → Numbers q → Arguments (call_of q)
numbers-arguments (asks.WriteRegister a v) h = h
numbers-arguments (asks.Write8 a v) h = h
numbers-arguments (asks.Read8 a) h = h
numbers-arguments (asks.Read16 a) h = h
numbers-arguments asks.Protect h = tt
numbers-arguments asks.Reset h = tt
numbers-arguments asks.PowerOff h = tt
numbers-arguments (asks.Environment mode modul oscillator) h = tt
