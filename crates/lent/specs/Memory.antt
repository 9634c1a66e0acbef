-- Lent memory, and the refusals of document 01's table as checks in its order: the first that fails gives its number.
-- Assumes nothing.
use Rattle.std.specs.Prelude.{ℕ, zero, suc, ◌-◌, ◌^◌, Bool, true, false, cond, not, ◌&&◌, ◌||◌, List, [], ◌∷◌, leb, ltb, eqb, length, Option}
use Rattle.refusal.specs.declared.Refusal.TheVariants as refused
use Rattle.refusal.specs.declared.Refusal.{Refusal}
use Rattle.refusal.specs.Refusal.{number}
use Rattle.time.specs.declared.Time.{Time}
use Rattle.time.specs.Raw.{raw}
use Rattle.cell.specs.Cell.{array_bytes, array_cells}
use Rattle.flash.specs.declared.Flash.{Flash}
use Rattle.settle.specs.Settling.{range_bytes}
use Rattle.flash.specs.Chip.{Chip, chip}
use Rattle.registers.specs.declared.Pulse.{Pulse}
use Rattle.layout.specs.Layout.{record_length, decoded, encoded}

-- The record's bytes, the stored array, the charge store.
pub record Memory : Type 0 where
  pub bytes : List ℕ
  pub array : List ℕ
  pub charges : List ℕ

-- memory as a function is lent it, in three slices
abbrev pub lent : List ℕ → List ℕ → List ℕ → Memory
lent bytes array charges = record { bytes = bytes; array = array; charges = charges }

-- an instant as a function is given it, by its halves
abbrev pub moment : ℕ → ℕ → Time
moment seconds fraction = record { 0 = seconds; 1 = fraction }

-- the chip in some memory, and the memory of a chip
abbrev pub chip_in : Memory → Chip
chip_in m = chip (decoded m.bytes) m.array m.charges

abbrev pub memory_of : Chip → Memory
memory_of k = lent (encoded k.flash) k.array k.charges

-- ---- checks

-- A refusal: its number, and whether it is given.
pub record Check : Type 0 where
  pub number : ℕ
  pub given : Bool

abbrev pub check : Refusal → Bool → Check
check r b = record { number = number r; given = b }

-- The place line, by its own number: 0 where nothing is wrong with an address, a bit or a mode.
abbrev pub is_refusal : ℕ → Bool
is_refusal zero = false
is_refusal (suc n) = true

abbrev pub place_line : ℕ → Check
place_line n = record { number = n; given = is_refusal n }

-- First failing line wins; 0 is no refusal.
abbrev pub first_given : List Check → ℕ
first_given [] = 0
first_given (c ∷ cs) = cond c.given c.number (first_given cs)

-- 2: record not of its one length, array not 49,152 bytes, charge store not 393,216 numbers
abbrev pub record_misfits : List ℕ → Bool
record_misfits bytes = not (eqb (length bytes) record_length)

abbrev pub sizes_misfit : ℕ → ℕ → ℕ → Bool
sizes_misfit bytes array charges = not (eqb bytes record_length) || not (eqb array array_bytes) || not (eqb charges array_cells)

abbrev pub misfits : Memory → Bool
misfits m = sizes_misfit (length m.bytes) (length m.array) (length m.charges)

-- 4: an address at C000 hex or more; a word at BFFF hex or more; a bit over 7; a mode over 5
abbrev pub past_end : ℕ → Bool
past_end address = leb array_bytes address

abbrev pub bit_over : ℕ → Bool
bit_over k = ltb 7 k

abbrev pub mode_over : ℕ → Bool
mode_over mode = ltb 5 mode

-- 5: whole seconds 2^64-1
abbrev pub last_second : Time → Bool
last_second t = leb (2 ^ 64 - 1) t.0

-- 6: before the last settling
abbrev pub too_early : Time → Flash → Bool
too_early t s = ltb (raw t) (raw s.pulse_since)

unfoldable pub time_refusal : Time → Flash → ℕ
time_refusal t s = first_given (check refused.LastSecond (last_second t) ∷ check refused.TooEarly (too_early t s) ∷ [])

-- 7: pulse open with range of k > 0 bytes and fewer than k+1 words
abbrev pub too_few_words : Option Pulse → ℕ → Bool
too_few_words pulse words = ltb 0 (range_bytes pulse) && leb words (range_bytes pulse)
