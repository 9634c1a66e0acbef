-- What is claimed of replays: calls are read back from their numbers, a replay stops at the first call that says something, replays one
-- after the other are one list of calls, and demand 3 holds after any of them.
-- Assumes nothing.
use Rattle.std.specs.Prelude.{ℕ, ◌+◌, ◌^◌, ◌≤◌, ◌<◌, ◌≡◌, false, List, [], ◌∷◌, ◌++◌, length}
use Rattle.lists.specs.Lists.{at}
use Rattle.cell.specs.Cell.{array_bytes, array_cells}
use Rattle.lent.specs.declared.Request.{Request}
use Rattle.lent.specs.Memory.{Memory}
use Rattle.ledger.specs.Lists.{Asked, asked, Numbers, Typed, new_memory, memory_after, events_of}
use Rattle.ledger.specs.Claim.{Demand}
use Rattle.listing.specs.Calls.{request_in, word_of}
use Rattle.listing.specs.Replaying.{stops, end_in, asks}

-- numbers of 64 bits
abbrev pub Words : List ℕ → Type 0
Words calls = (k : ℕ) → at calls k < 2 ^ 64

-- every call but the last was accepted, gave no event words and was no read
abbrev pub Quiet : List Asked → Memory → Type 0
Quiet [] m = Unit
Quiet (q ∷ []) m = Unit
Quiet (q ∷ p ∷ qs) m = (stops q.request (asked q m).number (asked q m).count ≡ false) × Quiet (p ∷ qs) (asked q m).memory

pub record Replay3 : Type 0 where
  -- a request with arguments in their types' ranges is read back from its number
  pub back : (q : Request) → Numbers q → request_in (word_of q) ≡ q
  -- the calls that a replay does have such arguments
  pub typed : (from to : ℕ) (calls lent : List ℕ) (m : Memory) → Words calls → Typed (asks from to calls lent m)
  -- only the last of them said something
  pub quiet : (from to : ℕ) (calls lent : List ℕ) (m : Memory) → Quiet (asks from to calls lent m) m
  -- where calls are left, at least one is done, and none past the end
  pub further : (from to : ℕ) (calls lent : List ℕ) (m : Memory) → from < end_in to (length calls)
      → (1 ≤ length (asks from to calls lent m)) × (from + length (asks from to calls lent m) ≤ end_in to (length calls))
  -- replayed in pieces, a list leaves and gives what it does in one
  pub memory_pieces : (qs rs : List Asked) (m : Memory) → memory_after (qs ++ rs) m ≡ memory_after rs (memory_after qs m)
  pub events_pieces : (qs rs : List Asked) (m : Memory) → events_of (qs ++ rs) m ≡ events_of qs m ++ events_of rs (memory_after qs m)
  -- demand 3 after any calls on a new array and then a replay
  pub demand : (firmware charges : List ℕ) → length firmware ≡ array_bytes → ((a : ℕ) → at firmware a < 256) → length charges ≡ array_cells
      → (qs : List Asked) → Typed qs → (from to : ℕ) (calls lent : List ℕ) → Words calls
      → Typed (qs ++ asks from to calls lent (memory_after qs (new_memory firmware charges)))
      × Demand firmware charges (qs ++ asks from to calls lent (memory_after qs (new_memory firmware charges)))
