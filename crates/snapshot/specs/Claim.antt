-- What is claimed of snapshots beyond the contracts: what is written reads back, what is read and accepted writes back, and restored memory
-- answers as the original does. Document 01, "Verify sensing, looking, snapshot".
-- Assumes nothing.
use Rattle.std.specs.Prelude.{ℕ, ◌*◌, ◌<◌, ◌≤◌, ◌≡◌, true, false, List, ltb, length, take}
use Rattle.std.proofs.lemmas.List.Edits.{sets}
use Rattle.refusal.specs.declared.Refusal.TheVariants as refused
use Rattle.refusal.specs.Refusal.{number}
use Rattle.time.specs.declared.Time.{Time}
use Rattle.lists.specs.Lists.{at}
use Rattle.cell.specs.Cell.{FULL, page_cells}
use Rattle.settle.specs.Pages.{opened}
use Rattle.layout.specs.Layout.{decoded, refused3}
use Rattle.lent.specs.declared.Request.{Request}
use Rattle.lent.specs.Memory.{Memory, lent, chip_in, misfits, last_second, too_early}
use Rattle.lent.specs.Asked.{Outcome, outcome}
use Rattle.lent.specs.Looked.{charge_refusal, charge_answer, peek_refusal, peek_answer, blank_refusal, blank_answer, image_refusal, image_left}
use Rattle.snapshot.specs.Snapshot.{snapshot_of, snapshot_length}
use Rattle.snapshot.specs.Asked.{read_refusal, memory_read}

-- every number is a byte
abbrev pub Bytes : List ℕ → Type 0
Bytes xs = (k : ℕ) → at xs k < 256

-- the charges in use: those of the slots of opened pages
abbrev pub in_use : Memory → ℕ
in_use m = opened (decoded m.bytes).indices * page_cells

-- Memory with a good record, whose charges in use are not over FULL: such is every memory reached by calls.
pub record Whole (m : Memory) : Type 0 where
  pub fits : misfits m ≡ false
  pub reads : refused3 m.bytes ≡ false
  pub record_bytes : Bytes m.bytes
  pub array_bytes : Bytes m.array
  pub full : (i : ℕ) → i < in_use m → at m.charges i ≤ FULL

-- memory that differs in nothing but slots not in use
pub record Alike (m m' : Memory) : Type 0 where
  pub record_is : m'.bytes ≡ m.bytes
  pub array_is : m'.array ≡ m.array
  pub long : length m'.charges ≡ length m.charges
  pub used : (i : ℕ) → i < in_use m → at m'.charges i ≡ at m.charges i

-- ---- written and read

pub record Snapshots : Type 0 where
  -- 49,412 bytes, 8,194 more a page, 18 more with a pending sense
  pub long : (m : Memory) → Whole m
      → length (snapshot_of (chip_in m)) ≡ snapshot_length (opened (decoded m.bytes).indices) (decoded m.bytes).registers.verify_pending
  -- A state with erase below 64 reads back the same at any accepted time, into any memory of the right lengths: there the charges in use
  -- are the original's, and the other slots keep their numbers.
  pub back : (m m' : Memory) (t : Time) → Whole m → misfits m' ≡ false → last_second t ≡ false → too_early t (decoded m.bytes) ≡ false
      → ltb (decoded m.bytes).registers.erase 64 ≡ true
      → (read_refusal t (snapshot_of (chip_in m)) m' ≡ 0)
      × (memory_read 0 (snapshot_of (chip_in m)) m' ≡ lent m.bytes m.array (sets m'.charges 0 (take (in_use m) m.charges)))
  -- with erase 64 or more it is refused by 12
  pub erase_refused : (m m' : Memory) (t : Time) → Whole m → misfits m' ≡ false → last_second t ≡ false
      → ltb (decoded m.bytes).registers.erase 64 ≡ false → read_refusal t (snapshot_of (chip_in m)) m' ≡ number refused.Invalid
  -- what is read and accepted writes back the same bytes, and is whole
  pub same : (bytes : List ℕ) (m : Memory) (t : Time) → Bytes bytes → read_refusal t bytes m ≡ 0
      → (snapshot_of (chip_in (memory_read 0 bytes m)) ≡ bytes) × Whole (memory_read 0 bytes m)

-- ---- the answers of restored memory

pub record SameOutcome (o o' : Outcome) : Type 0 where
  pub number : o'.number ≡ o.number
  pub value : o'.value ≡ o.value
  pub events : o'.events ≡ o.events
  pub count : o'.count ≡ o.count
  pub memory : Alike o.memory o'.memory

-- Every call and every look answers alike over two memories, calls leave them alike, and they have one snapshot. What looks at the record
-- alone needs no line: the records are equal.
pub record SameAnswers (m m' : Memory) : Type 0 where
  pub call : (q : Request) (t : Time) (lent : List ℕ) → SameOutcome (outcome q t lent m) (outcome q t lent m')
  pub charge : (a bit : ℕ) (t : Time) → (charge_refusal a bit t m' ≡ charge_refusal a bit t m)
      × (charge_refusal a bit t m ≡ 0 → charge_answer a bit t m' ≡ charge_answer a bit t m)
  pub peek : (a : ℕ) (t : Time) → (peek_refusal a t m' ≡ peek_refusal a t m) × (peek_refusal a t m ≡ 0 → peek_answer a t m' ≡ peek_answer a t m)
  pub blank : (a : ℕ) (t : Time) → (blank_refusal a t m' ≡ blank_refusal a t m) × (blank_refusal a t m ≡ 0 → blank_answer a t m' ≡ blank_answer a t m)
  pub image : (t : Time) (out : List ℕ) → image_left (image_refusal t (length out) m') t m' out ≡ image_left (image_refusal t (length out) m) t m out
  pub snapshot : snapshot_of (chip_in m') ≡ snapshot_of (chip_in m)

abbrev pub Restored : Type 0
Restored = (m m' : Memory) → Alike m m' → SameAnswers m m'
