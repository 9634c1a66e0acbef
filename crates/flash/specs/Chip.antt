-- The chip: the state with the array and the charges that it is lent, and what an accepted call does to it, word by word. Document
-- 01, "Supply and reset" and "Pulses and settling".
-- Assumes nothing.
use Rattle.std.specs.Prelude.{ℕ, suc, ◌+◌, ◌*◌, ◌%◌, ◌^◌, ◌≤◌, ◌<◌, ◌≡◌, Bool, true, false, cond, not, ◌&&◌, List, [], ◌++◌, ltb, length, replicate, Option}
use Rattle.std.proofs.lemmas.List.Edits.{sets}
use Rattle.time.specs.declared.Time.{Time}
use Rattle.time.specs.Raw.{instant}
use Rattle.lists.specs.Lists.{at}
use Rattle.cell.specs.Cell.{array_bytes, array_cells, pages}
use Rattle.control.specs.Bits.{verifies}
use Rattle.control.specs.Waits.{reached}
use Rattle.control.specs.Supplies.{is_stopped}
use Rattle.registers.specs.declared.Registers.{Registers}
use Rattle.registers.specs.declared.Call.{Call}
use Rattle.registers.specs.declared.Call.TheVariants.{WriteRegister, Write8, Read8, Read16, Protect, Reset, PowerOff, Environment}
use Rattle.registers.specs.Pulses.{pulse, is_open, normal}
use Rattle.registers.specs.Environment.{fresh}
use Rattle.registers.specs.Calls.{next, settles}
use Rattle.flash.specs.declared.Flash.{Flash}
use Rattle.settle.specs.Pages.{Cells, slots_sound}
use Rattle.registers.specs.declared.Pulse.{Pulse}
use Rattle.settle.specs.Settling.{range_end, sense_address, settled_by, changes, end_words, sensed_by}

pub record Chip : Type 0 where
  pub flash : Flash
  pub array : List ℕ
  pub charges : List ℕ

-- a state with what is lent
abbrev pub chip : Flash → List ℕ → List ℕ → Chip
chip flash array charges = record { flash = flash; array = array; charges = charges }

abbrev pub registers : Chip → Registers
registers k = k.flash.registers

abbrev pub cells : Chip → Cells
cells k = record { index = k.flash.indices; array = k.array; charges = k.charges }

-- the chip with these in their place
abbrev pub with_cells : Cells → Chip → Chip
with_cells c k = record { flash = record (k.flash) { indices = c.index }; array = c.array; charges = c.charges }

-- index, array and charges as a settle at a time leaves them
abbrev pub settled_at : Time → Chip → Cells
settled_at now k = settled_by (pulse (registers k)) (registers k).latch k.flash.pulse_since now (cells k)

-- the sensed bytes as a settle at a time leaves them
abbrev pub sensed_at : Time → Chip → List ℕ
sensed_at now k = sensed_by (registers k) now (settled_at now k) k.flash.sensed

-- ---- a call

-- whether its address lies in the array: a byte read or a data write below C000 hex, a word below BFFF hex
abbrev pub placed : Call → Bool
placed (WriteRegister a v) = true
placed (Write8 a v) = ltb a array_bytes
placed (Read8 a) = ltb a array_bytes
placed (Read16 a) = ltb (suc a) array_bytes
placed Protect = true
placed Reset = true
placed PowerOff = true
placed (Environment mode modul oscillator) = true

pub record Step : Type 0 where
  pub chip : Chip
  pub events : List ℕ

unfoldable pub blank_sensed : List ℕ
blank_sensed = replicate 4 0xFF

-- the sensed bytes after a call whose settle left some: Reset and power-off leave FF
abbrev pub sensed_after : Call → List ℕ → List ℕ
sensed_after (WriteRegister a v) sensed = sensed
sensed_after (Write8 a v) sensed = sensed
sensed_after (Read8 a) sensed = sensed
sensed_after (Read16 a) sensed = sensed
sensed_after Protect sensed = sensed
sensed_after Reset sensed = blank_sensed
sensed_after PowerOff sensed = blank_sensed
sensed_after (Environment mode modul oscillator) sensed = sensed

-- A call that does not settle changes registers alone. One that does also leaves what settling leaves; changed bytes give events,
-- then the end of its pulse does.
unfoldable pub step_if : Bool → Call → Time → Chip → Step
step_if false c now k =
    record { chip = record k { flash = record (k.flash) { registers = next c now (registers k) } }; events = [] }
step_if true c now k =
    record {
      chip = with_cells (settled_at now k) (record k {
        flash = record (k.flash) { registers = next c now (registers k); pulse_since = now; sensed = sensed_after c (sensed_at now k) };
      });
      events = changes 0 k.array (settled_at now k).array ++ end_words c now (registers k);
    }

unfoldable pub step : Call → Time → Chip → Step
step c now k = step_if (settles c now (registers k)) c now k

-- ---- what a read answers

-- Without a pulse: PV alone or EV alone, not Stopped, at or past ready, gives the sensed byte address mod 4; else FF.
unfoldable pub verified : ℕ → Time → Registers → List ℕ → ℕ
verified a now r sensed =
    cond (verifies r.control && not (is_stopped r.supply) && reached now r.ready) (at sensed (a % 4)) 0xFF

-- An open pulse trips protection, answer FF.
abbrev pub unserved : ℕ → Time → Option Pulse → Registers → List ℕ → ℕ
unserved a now pulse r sensed = cond (is_open pulse) 0xFF (verified a now r sensed)

-- Normal reading: the stored byte.
unfoldable pub byte_read : ℕ → Time → Chip → ℕ
byte_read a now k =
    cond (normal now (registers k)) (at k.array a) (unserved a now (pulse (registers k)) (registers k) (sensed_at now k))

-- A word is high byte first; where reading is not normal, two byte reads.
unfoldable pub word_read : ℕ → Time → Chip → ℕ
word_read a now k =
    cond (normal now (registers k)) (256 * at k.array a + at k.array (suc a))
    (256 * byte_read a now k + byte_read (suc a) now (step (Read8 a) now k).chip)

-- the answer of a call, 0 where it has none
unfoldable pub answer : Call → Time → Chip → ℕ
answer (WriteRegister a v) now k = 0
answer (Write8 a v) now k = 0
answer (Read8 a) now k = byte_read a now k
answer (Read16 a) now k = word_read a now k
answer Protect now k = 0
answer Reset now k = 0
answer PowerOff now k = 0
answer (Environment mode modul oscillator) now k = 0

-- a word is below 2^16, any other answer a byte
abbrev pub answer_limit : Call → ℕ
answer_limit (WriteRegister a v) = 2 ^ 8
answer_limit (Write8 a v) = 2 ^ 8
answer_limit (Read8 a) = 2 ^ 8
answer_limit (Read16 a) = 2 ^ 16
answer_limit Protect = 2 ^ 8
answer_limit Reset = 2 ^ 8
answer_limit PowerOff = 2 ^ 8
answer_limit (Environment mode modul oscillator) = 2 ^ 8

-- the same by whether the call settles: a read of the stored bytes, or of what a settle left in the sensed ones
abbrev pub stored_answer : Call → List ℕ → ℕ
stored_answer (WriteRegister a v) array = 0
stored_answer (Write8 a v) array = 0
stored_answer (Read8 a) array = at array a
stored_answer (Read16 a) array = 256 * at array a + at array (suc a)
stored_answer Protect array = 0
stored_answer Reset array = 0
stored_answer PowerOff array = 0
stored_answer (Environment mode modul oscillator) array = 0

abbrev pub settled_answer : Call → Time → Option Pulse → Registers → List ℕ → ℕ
settled_answer (WriteRegister a v) now pulse r sensed = 0
settled_answer (Write8 a v) now pulse r sensed = 0
settled_answer (Read8 a) now pulse r sensed = unserved a now pulse r sensed
settled_answer (Read16 a) now pulse r sensed = 256 * unserved a now pulse r sensed + unserved (suc a) now pulse r sensed
settled_answer Protect now pulse r sensed = 0
settled_answer Reset now pulse r sensed = 0
settled_answer PowerOff now pulse r sensed = 0
settled_answer (Environment mode modul oscillator) now pulse r sensed = 0

-- memory that fits: its lengths, slots one-to-one with opened pages, the pulse and the pending sense inside the array
pub record Fit (k : Chip) : Type 0 where
  pub index_long : length k.flash.indices ≡ pages
  pub array_long : length k.array ≡ array_bytes
  pub charges_long : length k.charges ≡ array_cells
  pub slots : slots_sound k.flash.indices ≡ true
  pub pulse_inside : range_end (pulse (registers k)) ≤ pages
  pub sense_inside : sense_address (registers k).verify_pending + 4 ≤ array_bytes

-- what an accepted call leaves of a chip and in the event words lent, and answers
pub record Performed (c : Call) (now : Time) (k : Chip) (lent : List ℕ) (left : Chip) (events : List ℕ) (value count : ℕ) : Type 0 where
  pub chip_is : left ≡ (step c now k).chip
  pub events_are : events ≡ sets lent 0 (step c now k).events
  pub value_is : value ≡ answer c now k
  pub value_small : value < answer_limit c
  pub count_is : count ≡ length (step c now k).events

-- ---- a fresh array: nothing opened, sensed FF, last settling 0

unfoldable pub no_pages : ℕ → List ℕ
no_pages n = replicate n 0

unfoldable pub fresh_flash : Flash
fresh_flash = record { registers = fresh; pulse_since = instant 0; sensed = blank_sensed; indices = no_pages pages }
