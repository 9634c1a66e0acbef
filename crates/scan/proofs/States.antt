-- The length of a state: 256 bytes, or 274 with a pending sense. Assumes nothing.
use Rattle.std.proofs.Common.{◌≡◌, ℕ, ◌+◌, ◌≤◌, Bool, true, false, cond, eqb, List, length, arith}
use lib.Dec.{lit≤}
use borrow.Author.Tests.{eq-eqb}
use Rattle.lists.specs.Lists.{at}
use Rattle.snapshot.specs.Places.{state_length}

pub state-least : (xs : List ℕ) (place : ℕ) → 256 ≤ state_length xs place
unfolding state_length
state-least xs place = by (eqb (at xs (place + 251)) 1)
  where
    by : (b : Bool) → 256 ≤ cond b 274 256
    by true = lit≤ tt
    by false = lit≤ tt

pub state-room : (xs : List ℕ) (place : ℕ) → place + state_length xs place ≤ length xs → place + 256 ≤ length xs
state-room xs place h = omega (arith, state-least xs place)

-- with a pending sense
pub pending-room : (xs : List ℕ) (place : ℕ) → place + state_length xs place ≤ length xs → at xs (place + 251) ≡ 1 → place + 274 ≤ length xs
unfolding state_length
pending-room xs place h e = rw (eq-eqb _ _ e) at h

pub ruleset rooms = (state-least, state-room, pending-room)
