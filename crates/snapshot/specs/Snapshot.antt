-- The snapshot: the array, its charge pages and its state in the Borsh format, fields in the struct's order. Document 01, "Verify sensing,
-- looking, snapshot" and "Order of checking", the rows "snapshot".
-- Assumes nothing.
use Rattle.std.specs.Prelude.{ℕ, zero, suc, ◌+◌, ◌*◌, ◌/◌, List, [], ◌∷◌, ◌++◌, Bool, cond, not, ◌&&◌, take, drop, set, leb, eqb, Option, Some, None}
use Rattle.time.specs.declared.Time.{Time}
use Rattle.time.specs.Raw.{raw, instant}
use Rattle.control.specs.declared.Mode.{Mode}
use Rattle.control.specs.declared.Supply.{Supply}
use Rattle.control.specs.declared.PendingSense.{PendingSense}
use Rattle.control.specs.Supplies.{supply_number, mode_number}
use Rattle.cell.specs.Cell.{FULL, page_bytes, page_cells, pages, array_bytes}
use Rattle.settle.specs.Pages.{opened, holds}
use Rattle.flash.specs.declared.Flash.{Flash}
use Rattle.flash.specs.Chip.{Chip, no_pages}
use Rattle.layout.specs.Layout.{option_byte, supply_of, mode_of, placed}
use Rattle.borsh.specs.Borsh.{Borsh, int, bool, enum, only, mapped, ◌then◌, option, array, vec}

-- ---- charge pages: an address and 1,024 charges

abbrev pub ChargePage : Type 0
ChargePage = ℕ × List ℕ

abbrev pub addresses : List ChargePage → List ℕ
addresses [] = []
addresses (p ∷ ps) = p.0 ∷ addresses ps

-- Refused by 10: a charge over FULL; a page address misaligned, past the end or repeated.
unfoldable pub charge : Borsh ℕ
charge = only (λ q. leb q FULL) (int 8)

unfoldable pub charge_page : List ChargePage → Borsh ChargePage
charge_page before = only (λ a. placed a page_bytes && not (holds a (addresses before))) (int 2) then array page_cells charge

-- ---- the other fields

-- an instant: its raw units, in 128 bits
unfoldable pub time : Borsh Time
time = mapped instant raw (int 16)

abbrev pub pending_in : Option (ℕ × Time) → Option PendingSense
pending_in None = None
pending_in (Some p) = Some (record { address = p.0; at = p.1 })

abbrev pub option_of : Option PendingSense → Option (ℕ × Time)
option_of None = None
option_of (Some sense) = Some (sense.address, sense.at)

unfoldable pub pending : Borsh (Option PendingSense)
pending = mapped pending_in option_of (option (int 2 then time))

unfoldable pub supply : Borsh Supply
supply = enum 3 supply_number supply_of

unfoldable pub mode : Borsh Mode
mode = enum 6 mode_number mode_of

-- ---- the struct, in runs of fields

-- control, error, erase, enabled, power_down_disabled
abbrev pub Controls : Type 0
Controls = ℕ × (Bool × (ℕ × (Bool × Bool)))

unfoldable pub controls : Borsh Controls
controls = int 1 then bool then int 1 then bool then bool

-- latch, page
abbrev pub Latched : Type 0
Latched = List ℕ × ℕ

unfoldable pub latched : Borsh Latched
latched = array page_bytes (int 1) then int 2

-- supply, oscillator, mode, module
abbrev pub Supplies : Type 0
Supplies = Supply × (Bool × (Mode × Bool))

unfoldable pub supplies : Borsh Supplies
supplies = supply then bool then mode then bool

-- ready, swe_ready, program_ready, erase_ready, recovery, pulse_since, verify_ready
abbrev pub Instants : Type 0
Instants = Time × (Time × (Time × (Time × (Time × (Time × Time)))))

unfoldable pub instants : Borsh Instants
instants = time then time then time then time then time then time then time

-- after bytes and charges: those, verify_pending, sensed
abbrev pub State : Type 0
State = Controls × (Latched × (Supplies × (Instants × (Option PendingSense × List ℕ))))

unfoldable pub state : Borsh State
state = controls then latched then supplies then instants then pending then array 4 (int 1)

abbrev pub Contents : Type 0
Contents = List ℕ × (List ChargePage × State)

-- Over 384 charge pages are refused by 10.
unfoldable pub snapshot : Borsh Contents
snapshot = array array_bytes (int 1) then vec pages charge_page then state

-- ---- from a chip to the contents of its snapshot

-- where a number stands in a list
unfoldable pub place_of : ℕ → List ℕ → ℕ
place_of x [] = 0
place_of x (y ∷ ys) = cond (eqb x y) 0 (suc (place_of x ys))

-- the charge page of a slot: the page that has it, and the slot's charges
abbrev pub slot_page : List ℕ → List ℕ → ℕ → ChargePage
slot_page index charges s = (place_of (suc s) index * page_bytes, take page_cells (drop (s * page_cells) charges))

-- n charge pages in slot order, from a slot on
unfoldable pub slot_pages : ℕ → ℕ → List ℕ → List ℕ → List ChargePage
slot_pages zero s index charges = []
slot_pages (suc n) s index charges = slot_page index charges s ∷ slot_pages n (suc s) index charges

unfoldable pub state_fields : Flash → State
state_fields s =
    let r = s.registers in (
      (r.control, (r.error, (r.erase, (r.enabled, r.power_down_disabled)))),
      (
        (r.latch, r.page),
        (
          (r.supply, (r.oscillator, (r.mode, r.«module»))),
          (
            (
              r.ready,
              (r.swe_ready, (r.program_ready, (r.erase_ready, (r.recovery, (s.pulse_since, r.verify_ready))))),
            ),
            (r.verify_pending, s.sensed),
          ),
        ),
      ),
    )

unfoldable pub contents_of : Chip → Contents
contents_of k =
    let index = k.flash.indices in
    (k.array, (slot_pages (opened index) 0 index k.charges, state_fields k.flash))

unfoldable pub snapshot_of : Chip → List ℕ
snapshot_of k = snapshot.write (contents_of k)

-- 49,412 bytes, 8,194 more a page, 18 more with a pending sense; that they are so many is a theorem
abbrev pub snapshot_length : ℕ → Option PendingSense → ℕ
snapshot_length n p = 49412 + 8194 * n + 18 * option_byte p

-- ---- and back

-- The page index: charge pages have slots in their order.
unfoldable pub indexed : ℕ → List ChargePage → List ℕ → List ℕ
indexed s [] index = index
indexed s (p ∷ ps) index = indexed (suc s) ps (set index (p.0 / page_bytes) (suc s))

-- their charges, one page after the other
unfoldable pub cells_of : List ChargePage → List ℕ
cells_of [] = []
cells_of (p ∷ ps) = p.1 ++ cells_of ps

unfoldable pub state_of : State → List ℕ → Flash
state_of (
  (control, (error, (erase, (enabled, powerDown)))),
  (
    (latch, page),
    (
      (supply, (oscillator, (mode, modul))),
      ((ready, (sweReady, (programReady, (eraseReady, (recovery, (since, verifyReady)))))), (pending, sensed)),
    ),
  ),
) index =
    record {
      registers = record {
        control = control;
        error = error;
        erase = erase;
        enabled = enabled;
        power_down_disabled = powerDown;
        latch = latch;
        page = page;
        supply = supply;
        oscillator = oscillator;
        mode = mode;
        «module» = modul;
        ready = ready;
        swe_ready = sweReady;
        program_ready = programReady;
        erase_ready = eraseReady;
        recovery = recovery;
        verify_ready = verifyReady;
        verify_pending = pending;
      };
      pulse_since = since;
      sensed = sensed;
      indices = index;
    }

unfoldable pub flash_in : Contents → Flash
flash_in v = state_of v.1.1 (indexed 0 v.1.0 (no_pages pages))
