-- The ledger: what each cell's charge is, worked out from the calls alone. Document 01, "The ledger". It has no array, no slots and no
-- last settling; the register rules, the rule of one cell and the exposure are those of the chip.
-- Assumes nothing.
use Rattle.std.specs.Prelude.{ℕ, ◌/◌, ◌%◌, Bool, true, false, List, [], ◌++◌, Option, Some, None}
use Rattle.time.specs.declared.Time.{Time}
use Rattle.time.specs.Raw.{instant}
use Rattle.lists.specs.Lists.{at}
use Rattle.cell.specs.Cell.{bit, first_charge}
use Rattle.registers.specs.declared.Registers.{Registers}
use Rattle.registers.specs.declared.Call.{Call}
use Rattle.registers.specs.Pulses.{pulse}
use Rattle.registers.specs.Environment.{fresh}
use Rattle.registers.specs.Calls.{next}
use Rattle.registers.specs.declared.Pulse.{Pulse}
use Rattle.settle.specs.Pages.{cell_at}
use Rattle.settle.specs.Settling.{exposure, same_pulse, end_words}
use Rattle.flash.specs.Chip.{registers, cells}
use Rattle.flash.specs.Looking.{exposed_by}
use Rattle.lent.specs.Memory.{Memory, chip_in}

-- Every register, latch, supply and time field; each cell's charge; the instant at which the open pulse was opened; and the end events
-- so far.
pub record Ledger : Type 0 where
  pub registers : Registers
  pub charge : ℕ → ℕ
  pub opened : Time
  pub ends : List ℕ

-- A pulse is booked once, from the later of opening and ready to now, 0 if negative. 0 leaves any charge as it is, one over FULL too.
unfoldable pub booked : Option Pulse → List ℕ → Time → Time → (ℕ → ℕ) → ℕ → ℕ
booked None latch opened now charge i = charge i
booked (Some p) latch opened now charge i = exposed_by p latch (exposure p opened now) i (charge i)

-- Looking at t books the open pulse to t and keeps nothing.
unfoldable pub look : Time → Ledger → ℕ → ℕ
look t led i = booked (pulse led.registers) led.registers.latch led.opened t led.charge i

-- The rules apply but charge nothing. Only if the pulse then differs, the old one is booked, with the latch from before the call, and a
-- new pulse opens at now; the old one's end event is that of the chip's rules.
unfoldable pub entered_if : Bool → Call → Time → Ledger → Ledger
entered_if true c now led =
    record { registers = next c now led.registers; charge = led.charge; opened = led.opened; ends = led.ends }
entered_if false c now led =
    record {
      registers = next c now led.registers;
      charge = look now led;
      opened = now;
      ends = led.ends ++ end_words c now led.registers;
    }

-- an accepted call
unfoldable pub entered : Call → Time → Ledger → Ledger
entered c now led = entered_if (same_pulse (pulse led.registers) (pulse (next c now led.registers))) c now led

-- each cell's charge first 0 or FULL from the firmware
unfoldable pub fresh_ledger : List ℕ → Ledger
fresh_ledger firmware =
    record { registers = fresh; charge = λ i. first_charge (bit (at firmware (i / 8)) (i % 8)); opened = instant 0; ends = [] }

-- The ledger of any memory with a good record: its registers, its cells' charges, opened at its last settling.
unfoldable pub ledger_of : Memory → Ledger
ledger_of m =
    record {
      registers = registers (chip_in m);
      charge = cell_at (cells (chip_in m));
      opened = (chip_in m).flash.pulse_since;
      ends = [];
    }
