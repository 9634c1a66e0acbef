-- Snapshots of memory that a list of calls left, and calls on memory that a snapshot was read into. Document 01, "Verify sensing, looking,
-- snapshot".
-- Assumes nothing.
use Rattle.std.specs.Prelude.{ℕ, ◌<◌, ◌≡◌, true, false, List, ltb, length}
use Rattle.refusal.specs.declared.Refusal.TheVariants as refused
use Rattle.refusal.specs.Refusal.{number}
use Rattle.time.specs.declared.Time.{Time}
use Rattle.lists.specs.Lists.{at}
use Rattle.cell.specs.Cell.{array_bytes, array_cells}
use Rattle.layout.specs.Layout.{decoded}
use Rattle.lent.specs.Memory.{Memory, chip_in, misfits, last_second, too_early}
use Rattle.snapshot.specs.Snapshot.{snapshot_of}
use Rattle.snapshot.specs.Asked.{read_refusal, memory_read}
use Rattle.snapshot.specs.Claim.{Bytes, Whole, Alike}
use Rattle.ledger.specs.Ledger.{ledger_of}
use Rattle.ledger.specs.Lists.{Asked, Typed, new_memory, memory_after, events_of, heard_of}
use Rattle.ledger.specs.Claim.{Matches, BookedBy, ShownBy}

-- memory that some list of calls left on a new array
pub record Reached (m : Memory) : Type 0 where
  pub firmware : List ℕ
  pub charges : List ℕ
  pub calls : List Asked
  pub firmware_long : length firmware ≡ array_bytes
  pub firmware_bytes : (a : ℕ) → at firmware a < 256
  pub charges_long : length charges ≡ array_cells
  pub typed : Typed calls
  pub left : m ≡ memory_after calls (new_memory firmware charges)

pub record ReachedReadsBack : Type 0 where
  -- calls leave whole memory whole; so what is claimed of it is so of every memory reached by calls
  pub kept : (m : Memory) → Whole m → (qs : List Asked) → Typed qs → Whole (memory_after qs m)
  pub whole : (m : Memory) → Reached m → Whole m
  -- with erase below 64 it reads back the same at any accepted time, into any memory of the right lengths
  pub back : (m m' : Memory) (t : Time) → Reached m → misfits m' ≡ false → last_second t ≡ false → too_early t (decoded m.bytes) ≡ false
      → ltb (decoded m.bytes).registers.erase 64 ≡ true
      → (read_refusal t (snapshot_of (chip_in m)) m' ≡ 0) × Alike m (memory_read 0 (snapshot_of (chip_in m)) m')
  -- with erase 64 or 128 it is refused by 12
  pub erase_refused : (m m' : Memory) (t : Time) → Reached m → misfits m' ≡ false → last_second t ≡ false
      → ltb (decoded m.bytes).registers.erase 64 ≡ false → read_refusal t (snapshot_of (chip_in m)) m' ≡ number refused.Invalid
  -- its array is what its charges sense, and so is that of memory which its snapshot was read into
  pub matches : (m : Memory) → Reached m → Matches m
  pub still_matches : (m m' : Memory) → Whole m → Alike m m' → Matches m → Matches m'
  -- Whatever calls follow, over alike memories they are refused or not alike, give the same events, and leave memories alike.
  pub after : (qs : List Asked) (m m' : Memory) → Alike m m'
      → (heard_of qs m' ≡ heard_of qs m) × (events_of qs m' ≡ events_of qs m) × Alike (memory_after qs m) (memory_after qs m')

-- Whatever calls follow on memory m that a snapshot was read into, and accepted:
pub record FollowRead (m : Memory) : Type 0 where
  -- the claim of a list of calls holds from there on
  pub booked : (qs : List Asked) → Typed qs → BookedBy qs m (ledger_of m)
  -- of the bytes too, where its array is what its charges sense; a snapshot may hold any other
  pub shown : Matches m → (qs : List Asked) → Typed qs → ShownBy qs m (ledger_of m)
  -- and what is claimed of the snapshots of whole memory is so of what they leave
  pub whole : (qs : List Asked) → Typed qs → Whole (memory_after qs m)

abbrev pub ReadOnward : Type 0
ReadOnward = (bytes : List ℕ) (m : Memory) (t : Time) → Bytes bytes → read_refusal t bytes m ≡ 0 → FollowRead (memory_read 0 bytes m)
