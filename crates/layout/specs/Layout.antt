-- The record's bytes: the state as rows of numbers, one row after the other, each number in as many bytes as its row says; and which
-- records are refused by 3. Document 01, "Order of checking", the row "record".
-- Assumes nothing.
use Rattle.std.specs.Prelude.{ℕ, suc, ◌+◌, ◌*◌, ◌%◌, List, [], ◌∷◌, Bool, cond, not, ◌&&◌, ◌||◌, ltb, leb, eqb, Option, Some, None}
use Rattle.time.specs.declared.Time.{Time}
use Rattle.control.specs.declared.Mode.{Mode}
use Rattle.control.specs.declared.Mode.TheVariants.{Active, Subactive, Sleep, Subsleep, Watch, Standby}
use Rattle.control.specs.declared.Supply.{Supply}
use Rattle.control.specs.declared.Supply.TheVariants.{Normal, Reduced, Stopped}
use Rattle.control.specs.declared.PendingSense.{PendingSense}
use Rattle.registers.specs.declared.Registers.{Registers}
use Rattle.flash.specs.declared.Flash.{Flash}
use Rattle.lists.specs.Lists.{at}
use Rattle.cell.specs.Cell.{page_bytes, pages, array_bytes}
use Rattle.rows.specs.Rows.{Field, row, size, packed, unpacked, begins, part, flag_byte, flag_of, flag_known}
use Rattle.control.specs.Supplies.{supply_number, mode_number}
use Rattle.settle.specs.Pages.{slots_sound}

-- ---- the state's fields

-- flags, mode, supply, option and other single bytes
abbrev pub head_row : Field
head_row = record { count = 10; width = 1 }

-- page and pending address
abbrev pub address_row : Field
address_row = record { count = 2; width = 2 }

-- the halves of the instants, one instant after the other
abbrev pub instant_count : ℕ
instant_count = 8

abbrev pub half_row : Field
half_row = record { count = 2 * instant_count; width = 8 }

abbrev pub latch_row : Field
latch_row = record { count = page_bytes; width = 1 }

abbrev pub sensed_row : Field
sensed_row = record { count = 4; width = 1 }

-- the page index
abbrev pub index_row : Field
index_row = record { count = pages; width = 2 }

-- A later row goes last.
abbrev pub layout : List Field
layout = head_row ∷ address_row ∷ half_row ∷ latch_row ∷ sensed_row ∷ index_row ∷ []

abbrev pub record_length : ℕ
record_length = size layout

-- the two halves of the instant k of a record
abbrev pub halves_at : ℕ → List ℕ → List ℕ
halves_at k xs = row 2 half_row.width (begins layout 2 + 2 * half_row.width * k) xs

-- a supply and a mode by their numbers
unfoldable pub supply_of : ℕ → Supply
supply_of b = cond (eqb b 0) Normal (cond (eqb b 1) Reduced Stopped)

unfoldable pub mode_of : ℕ → Mode
mode_of b =
    cond (eqb b 0) Active
    (cond (eqb b 1) Subactive (cond (eqb b 2) Sleep (cond (eqb b 3) Subsleep (cond (eqb b 4) Watch Standby))))

-- A pending sense is an option byte, 1, with address and instant; without one all three are 0.
abbrev pub option_byte : Option PendingSense → ℕ
option_byte None = 0
option_byte (Some sense) = 1

abbrev pub pending_address : Option PendingSense → ℕ
pending_address None = 0
pending_address (Some sense) = sense.address

abbrev pub pending_instant : Option PendingSense → Time
pending_instant None = record { 0 = 0; 1 = 0 }
pending_instant (Some sense) = sense.at

abbrev pub pending_of : ℕ → ℕ → Time → Option PendingSense
pending_of option address instant = cond (eqb option 1) (Some (record { address = address; at = instant })) None

-- an instant's halves stand side by side
abbrev pub time_of : List ℕ → ℕ → Time
time_of halves k = record { 0 = at halves k; 1 = at halves (suc k) }

-- ---- the state as rows, and back

unfoldable pub head_of : Registers → List ℕ
head_of r =
    r.control ∷ flag_byte r.error ∷ r.erase ∷ flag_byte r.enabled ∷ flag_byte r.power_down_disabled ∷ supply_number r.supply
    ∷ flag_byte r.oscillator ∷ mode_number r.mode ∷ flag_byte r.«module» ∷ option_byte r.verify_pending ∷ []

unfoldable pub addresses_of : Registers → List ℕ
addresses_of r = r.page ∷ pending_address r.verify_pending ∷ []

unfoldable pub halves_of : Registers → Time → List ℕ
halves_of r since =
    r.ready.0 ∷ r.ready.1 ∷ r.swe_ready.0 ∷ r.swe_ready.1 ∷ r.program_ready.0 ∷ r.program_ready.1
    ∷ r.erase_ready.0 ∷ r.erase_ready.1 ∷ r.recovery.0 ∷ r.recovery.1 ∷ r.verify_ready.0 ∷ r.verify_ready.1
    ∷ since.0 ∷ since.1 ∷ (pending_instant r.verify_pending).0 ∷ (pending_instant r.verify_pending).1 ∷ []

unfoldable pub rows_of : Flash → List (List ℕ)
rows_of s =
    head_of s.registers ∷ addresses_of s.registers ∷ halves_of s.registers s.pulse_since ∷ s.registers.latch ∷ s.sensed
    ∷ s.indices ∷ []

unfoldable pub registers_of : List ℕ → List ℕ → List ℕ → List ℕ → Registers
registers_of head addresses halves latch =
    record {
      control = at head 0;
      error = flag_of (at head 1);
      erase = at head 2;
      enabled = flag_of (at head 3);
      power_down_disabled = flag_of (at head 4);
      latch = latch;
      page = at addresses 0;
      supply = supply_of (at head 5);
      oscillator = flag_of (at head 6);
      mode = mode_of (at head 7);
      «module» = flag_of (at head 8);
      ready = time_of halves 0;
      swe_ready = time_of halves 2;
      program_ready = time_of halves 4;
      erase_ready = time_of halves 6;
      recovery = time_of halves 8;
      verify_ready = time_of halves 10;
      verify_pending = pending_of (at head 9) (at addresses 1) (time_of halves 14);
    }

unfoldable pub state_of : List (List ℕ) → Flash
state_of rows =
    record {
      registers = registers_of (part rows 0) (part rows 1) (part rows 2) (part rows 3);
      pulse_since = time_of (part rows 2) 12;
      sensed = part rows 4;
      indices = part rows 5;
    }

-- ---- the record

unfoldable pub encoded : Flash → List ℕ
encoded s = packed layout (rows_of s)

-- the rows of a record
unfoldable pub rows_in : List ℕ → List (List ℕ)
rows_in xs = unpacked layout 0 xs

unfoldable pub decoded : List ℕ → Flash
decoded xs = state_of (rows_in xs)

-- ---- refusal 3

-- a byte that is a supply, a mode, an option
abbrev pub supply_known : ℕ → Bool
supply_known b = leb b 2

abbrev pub mode_known : ℕ → Bool
mode_known b = leb b 5

abbrev pub option_known : ℕ → Bool
option_known b = leb b 1

unfoldable pub head_known : List ℕ → Bool
head_known head =
    flag_known (at head 1) && flag_known (at head 3) && flag_known (at head 4) && supply_known (at head 5) && flag_known (at head 6)
    && mode_known (at head 7) && flag_known (at head 8) && option_known (at head 9)

-- bytes that some state is written as: with nothing pending, address and instant are 0
abbrev pub nothing_clear : ℕ → ℕ → Time → Bool
nothing_clear option address instant = eqb option 1 || (eqb address 0 && eqb instant.0 0 && eqb instant.1 0)

-- control bit 7 is clear
abbrev pub control_clear : ℕ → Bool
control_clear control = ltb control 128

-- an address is aligned to a step, and not past the end
abbrev pub placed : ℕ → ℕ → Bool
placed address step = eqb (address % step) 0 && ltb address array_bytes

-- what `validate` does not test itself: bytes that some state is written as, and used slots one-to-one with opened pages
unfoldable pub legible : List (List ℕ) → Bool
legible rows =
    head_known (part rows 0) && nothing_clear (at (part rows 0) 9) (at (part rows 1) 1) (time_of (part rows 2) 14) && slots_sound (part rows 5)

-- what it does: control, page and pending address
unfoldable pub in_range : List (List ℕ) → Bool
in_range rows = control_clear (at (part rows 0) 0) && placed (at (part rows 1) 0) page_bytes && placed (at (part rows 1) 1) 4

unfoldable pub accepted : List ℕ → Bool
accepted xs = legible (rows_in xs) && in_range (rows_in xs)

-- A record is refused by 3 if and only if one of these fails.
abbrev pub refused3 : List ℕ → Bool
refused3 xs = not (accepted xs)
