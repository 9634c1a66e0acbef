-- What is claimed of a whole list of calls, from any memory with a good record on, and demand 3, which is its case of a new array. Document
-- 01, "The ledger": at every accepted time of looking each cell's charge equals what the ledger works out; the bytes, byte events and end
-- events follow.
-- Assumes nothing.
use Rattle.std.specs.Prelude.{ℕ, suc, ◌+◌, ◌*◌, ◌<◌, ◌≡◌, true, false, List, length}
use Rattle.time.specs.declared.Time.{Time}
use Rattle.lists.specs.Lists.{at}
use Rattle.cell.specs.Cell.{array_bytes, array_cells}
use Rattle.registers.specs.Pulses.{normal}
use Rattle.registers.specs.Calls.{settles}
use Rattle.settle.specs.Pages.{cell_at}
use Rattle.settle.specs.Settling.{normal_byte, changes}
use Rattle.flash.specs.Chip.{registers, cells}
use Rattle.layout.specs.Layout.{refused3}
use Rattle.lent.specs.declared.Request.TheVariants.{Read8, Read16}
use Rattle.lent.specs.Memory.{Memory, chip_in, misfits}
use Rattle.lent.specs.Asked.{call_of, outcome}
use Rattle.lent.specs.Looked.{charge_refusal, charge_answer, peek_refusal, peek_answer, image_refusal, image_left}
use Rattle.snapshot.specs.Claim.{Bytes}
use Rattle.ledger.specs.Words.{applied, bytes_in, ends_in}
use Rattle.ledger.specs.Ledger.{Ledger, look, fresh_ledger, ledger_of}
use Rattle.ledger.specs.Lists.{Asked, asked, Typed, new_memory, memory_after, words_of, events_of, heard, heard_of, enter, ledger_after}

-- memory with a good record, as a host can lend it: any charges, and any array of bytes
pub record Good (m : Memory) : Type 0 where
  pub fits : misfits m ≡ false
  pub reads : refused3 m.bytes ≡ false
  pub record_bytes : Bytes m.bytes
  pub array_bytes : Bytes m.array

-- The array is what its charges sense: every byte is what its cells normally sense.
abbrev pub Matches : Memory → Type 0
Matches m = (a : ℕ) → a < array_bytes → at m.array a ≡ normal_byte (cell_at (cells (chip_in m))) a

-- The claim of memory m and a ledger after the same calls on an array, which gave the words `events`.
pub record Booked (array events : List ℕ) (m : Memory) (led : Ledger) : Type 0 where
  -- what a call left is refused neither by 2 nor by 3
  pub fits : misfits m ≡ false
  pub reads : refused3 m.bytes ≡ false
  -- every register, latch, supply and time field is the ledger's
  pub registers_are : registers (chip_in m) ≡ led.registers
  -- at every accepted time of looking each cell's charge is the ledger's
  pub charge : (a bit : ℕ) (t : Time) → charge_refusal a bit t m ≡ 0 → charge_answer a bit t m ≡ look t led (8 * a + bit)
  -- the next call, whichever it is: if it does not settle, it leaves the stored array
  pub unsettled : (q : Asked) → settles (call_of q.request) q.time (registers (chip_in m)) ≡ false → (asked q m).memory.array ≡ m.array
  -- its byte events are exactly one for each byte that it changes, with its new value, in rising address
  pub each : (q : Asked) → bytes_in (words_of (asked q m)) ≡ changes 0 m.array (asked q m).memory.array
  -- the array with all byte events applied in order is the stored array
  pub bytes : applied events array ≡ m.array
  -- the end events in order are the ledger's: kind, first address and length
  pub ends : ends_in events ≡ led.ends

-- The claim of what is read of that memory: the normal sensing of the ledger's charges.
pub record Shown (m : Memory) (led : Ledger) : Type 0 where
  -- `peek` and `image` are the normal sensing of each cell's charge
  pub peek : (a : ℕ) (t : Time) → peek_refusal a t m ≡ 0 → peek_answer a t m ≡ normal_byte (look t led) a
  pub image : (t : Time) (out : List ℕ) → image_refusal t (length out) m ≡ 0
      → (a : ℕ) → a < array_bytes → at (image_left (image_refusal t (length out) m) t m out) a ≡ normal_byte (look t led) a
  -- so is each stored byte that a read serves, whichever byte or word is read next
  pub served_byte : (a : ℕ) (t : Time) (lent : List ℕ) → (outcome (Read8 a) t lent m).number ≡ 0 → normal t (registers (chip_in m)) ≡ true
      → (outcome (Read8 a) t lent m).value ≡ normal_byte (look t led) a
  pub served_word : (a : ℕ) (t : Time) (lent : List ℕ) → (outcome (Read16 a) t lent m).number ≡ 0 → normal t (registers (chip_in m)) ≡ true
      → (outcome (Read16 a) t lent m).value ≡ 256 * normal_byte (look t led) a + normal_byte (look t led) (suc a)
  -- the stored array after the next call, whichever it is, if it settles: the normal sensing at its time
  pub stored : (q : Asked) → (asked q m).number ≡ 0 → settles (call_of q.request) q.time (registers (chip_in m)) ≡ true
      → (a : ℕ) → a < array_bytes → at (asked q m).memory.array a ≡ normal_byte (look q.time (enter (heard q (asked q m)) led)) a

-- both of a list of calls on some memory and on a ledger
abbrev pub BookedBy : List Asked → Memory → Ledger → Type 0
BookedBy qs m led = Booked m.array (events_of qs m) (memory_after qs m) (ledger_after (heard_of qs m) led)

abbrev pub ShownBy : List Asked → Memory → Ledger → Type 0
ShownBy qs m led = Shown (memory_after qs m) (ledger_after (heard_of qs m) led)

-- For every memory with a good record, with charges over FULL too, and every list of calls, with whatever arguments and event words:
pub record Onward : Type 0 where
  -- charges, registers and events are the ledger's, begun from that memory
  pub booked : (m : Memory) → Good m → (qs : List Asked) → Typed qs → BookedBy qs m (ledger_of m)
  -- so are the bytes, where the array is what its charges sense
  pub shown : (m : Memory) → Good m → Matches m → (qs : List Asked) → Typed qs → ShownBy qs m (ledger_of m)
  -- and the calls leave such memory again
  pub good : (m : Memory) → Good m → (qs : List Asked) → Typed qs → Good (memory_after qs m)
  pub matches : (m : Memory) → Good m → Matches m → (qs : List Asked) → Typed qs → Matches (memory_after qs m)

-- after any list of calls on a new array
abbrev pub Demand : List ℕ → List ℕ → List Asked → Type 0
Demand firmware charges qs =
    BookedBy qs (new_memory firmware charges) (fresh_ledger firmware) × ShownBy qs (new_memory firmware charges) (fresh_ledger firmware)

-- Demand 3: for every firmware of 49,152 bytes, every charge store and every list of calls, with whatever arguments and event words.
pub record Demand3 : Type 0 where
  pub of_every_list : (firmware charges : List ℕ) → length firmware ≡ array_bytes → ((a : ℕ) → at firmware a < 256) → length charges ≡ array_cells
      → (qs : List Asked) → Typed qs → Demand firmware charges qs
