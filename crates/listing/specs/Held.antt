-- What a part of a replay, on a chip that is held by value, leaves to the rest.
-- Assumes nothing.
use Rattle.std.specs.Prelude.{ℕ, ◌+◌, ◌-◌, ◌≤◌, ◌≡◌, List, length}
use Rattle.flash.specs.declared.Flash.{Flash}
use Rattle.flash.specs.Chip.{Chip, chip}
use Rattle.lent.specs.Memory.{memory_of}
use Rattle.lent.specs.Asked.{Outcome}
use Rattle.lent.specs.Held.{Ready, replied, written}
use Rattle.listing.specs.declared.Replayed.{Replayed}
use Rattle.listing.specs.Replaying.{idle, asks_after, last_of}

-- where a replay comes to, and with which outcome
pub record Ended : Type 0 where
  pub done : ℕ
  pub last : Outcome

-- by what a replay gives back and leaves
abbrev pub came : Replayed → Chip → List ℕ → Ended
came r k events = record { done = r.done; last = written (replied r.last events k) }

abbrev pub ended : ℕ → ℕ → List ℕ → Outcome → Ended
ended end i calls o = record { done = i + length (asks_after o (end - i) i calls); last = last_of (asks_after o (end - i) i calls) o }

-- Whatever memory is lent, a replay that has come to call i with state s goes on as one that has come to call j with state t.
pub record Onward (end : ℕ) (calls : List ℕ) (i : ℕ) (s : Flash) (j : ℕ) (t : Flash) : Type 0 where
  pub later : i ≤ j
  pub ready : (array charges : List ℕ) → Ready (chip s array charges) → Ready (chip t array charges)
  pub same : (lent array charges : List ℕ) → Ready (chip s array charges)
      → ended end i calls (idle lent (memory_of (chip s array charges))) ≡ ended end j calls (idle lent (memory_of (chip t array charges)))
