-- From the text to demand 3: whatever the text, the flash that a run leaves is the ledger's, after the first of the calls that the text asks
-- for; all of them, unless the run has ended early. So it is from any memory with a good record on, from one that a snapshot was read into,
-- and from a new array. Assumes nothing.
use Rattle.std.specs.Prelude.{ℕ, ◌<◌, ◌≡◌, false, List, [], ◌++◌, map, length}
use Rattle.time.specs.declared.Time.{Time}
use Rattle.lists.specs.Lists.{at}
use Rattle.cell.specs.Cell.{array_bytes, array_cells}
use Rattle.lent.specs.Memory.{Memory}
use Rattle.snapshot.specs.Asked.{read_refusal, memory_read}
use Rattle.snapshot.specs.Claim.{Bytes}
use Rattle.ledger.specs.Ledger.{ledger_of}
use Rattle.ledger.specs.Lists.{Asked, Typed, new_memory, memory_after}
use Rattle.ledger.specs.Claim.{Good, Matches, BookedBy, ShownBy, Demand}
use Rattle.lent.specs.declared.Asking.{Asking}
use Rattle.listing.specs.Calls.{asking}
use Rattle.course.specs.declared.Manner.{Manner}
use Rattle.course.specs.Course.{begun_at}
use Rattle.course.specs.Desk.{Desk, desk}
use Rattle.course.specs.Reader.{starts_with, text_read, text_calls}

-- The calls done of those asked for, from some memory on, and those that were not done, as the run had ended early.
pub record Done (m : Memory) (asked : List Asking) (d : Desk) : Type 0 where
  pub done : List Asked
  pub left : List Asking
  pub calls_are : map asking done ++ left ≡ asked
  pub all_done : d.course.stopped ≡ false → left ≡ []
  pub memory_is : d.memory ≡ memory_after done m

-- the same, with what is claimed of the calls done
pub record Booking (claim : List Asked → Type 0) (m : Memory) (asked : List Asking) (d : Desk) : Type 0 where
  pub run : Done m asked d
  pub typed : Typed run.done
  pub claimed : claim run.done

-- this is claimed of every text that is run at a desk
abbrev pub OfTexts : (List Asked → Type 0) → Desk → Type 0
OfTexts claim d = (w : Manner) (text : List ℕ) → Booking claim d.memory (text_calls w text (starts_with d)) (text_read w text (starts_with d)).desk

-- ---- from any memory on

-- The ledger begins with what is in memory; what is read is the ledger's too where the array is what its charges sense.
abbrev pub DemandFrom : Memory → List Asked → Type 0
DemandFrom m qs = BookedBy qs m (ledger_of m) × (Matches m → ShownBy qs m (ledger_of m))

-- memory that a snapshot was read into, and accepted
pub record ReadInto (m : Memory) : Type 0 where
  pub bytes : List ℕ
  pub before : Memory
  pub time : Time
  pub are_bytes : Bytes bytes
  pub accepted : read_refusal time bytes before ≡ 0
  pub memory_is : m ≡ memory_read 0 bytes before

pub record TextOnward : Type 0 where
  pub good : (d : Desk) → Good d.memory → OfTexts (DemandFrom d.memory) d
  -- that the snapshot was accepted is the only condition
  pub restored : (d : Desk) → ReadInto d.memory → OfTexts (DemandFrom d.memory) d

-- ---- from a new array on

abbrev pub begun : List ℕ → List ℕ → List ℕ → Time → Desk
begun firmware charges events t = desk (begun_at t) (new_memory firmware charges) events

pub record TextDemand3 : Type 0 where
  pub of_every_text : (firmware charges : List ℕ) → length firmware ≡ array_bytes → ((a : ℕ) → at firmware a < 256) → length charges ≡ array_cells
      → (events : List ℕ) (t : Time) → OfTexts (Demand firmware charges) (begun firmware charges events t)
