-- A replay: the calls of a list one after the other, each on memory and event words as the one before left them, until one says something
-- that is to be looked at. The calls done are a list of the ledger's, so that its folds say what they left and gave.
-- Assumes nothing.
use Rattle.std.specs.Prelude.{ℕ, zero, suc, ◌+◌, ◌-◌, ◌/◌, ◌≡◌, Bool, true, false, cond, not, ◌||◌, List, [], ◌∷◌, eqb, ltb, length, take}
use Rattle.lent.specs.declared.Request.{Request}
use Rattle.lent.specs.declared.Request.TheVariants.{WriteRegister, Write8, Read8, Read16, Protect, Reset, PowerOff, Environment}
use Rattle.lent.specs.Memory.{Memory}
use Rattle.lent.specs.Asked.{Outcome, Told}
use Rattle.ledger.specs.Lists.{Asked, asked, memory_after, events_of}
use Rattle.listing.specs.Calls.{call_at}

abbrev pub reads : Request → Bool
reads (WriteRegister a v) = false
reads (Write8 a v) = false
reads (Read8 a) = true
reads (Read16 a) = true
reads Protect = false
reads Reset = false
reads PowerOff = false
reads (Environment mode modul oscillator) = false

-- A replay stops after a call that was refused, that gave event words, or that read.
abbrev pub stops : Request → ℕ → ℕ → Bool
stops q number count = not (eqb number 0) || not (eqb count 0) || reads q

-- before any call nothing is refused, answered or given
abbrev pub idle : List ℕ → Memory → Outcome
idle lent m = record { number = 0; value = 0; memory = m; events = lent; count = 0 }

-- the calls done of the next n from the i-th on, after an outcome: the one that stops the replay is the last
unfoldable pub asks_after : Outcome → ℕ → ℕ → List ℕ → List Asked
asks_after o zero i calls = []
asks_after o (suc n) i calls =
    let q = call_at calls i o.events in
    let p = asked q o.memory in
    q ∷ cond (stops q.request p.number p.count) [] (asks_after p n (suc i) calls)

-- the end of a list, where it is shorter than asked for: a call is three numbers
abbrev pub end_in : ℕ → ℕ → ℕ
end_in to words = cond (ltb to (words / 3)) to (words / 3)

-- the calls done of those from one place to another
abbrev pub asks : ℕ → ℕ → List ℕ → List ℕ → Memory → List Asked
asks from to calls lent m = asks_after (idle lent m) (end_in to (length calls) - from) from calls

-- the outcome of a list's last call, after an outcome
unfoldable pub last_of : List Asked → Outcome → Outcome
last_of [] o = o
last_of (q ∷ qs) o = last_of qs (asked q o.memory)

-- What a replay gives back and leaves, where qs are the calls done: memory is the ledger's fold over them, and so are the event words
-- given; number, value, count and all event words are those of the last of them.
pub record Replays (from : ℕ) (qs : List Asked) (lent : List ℕ) (m : Memory) (done number value count : ℕ) (left : Memory) (events : List ℕ) : Type 0 where
  pub done_is : done ≡ from + length qs
  pub memory_is : left ≡ memory_after qs m
  pub given_are : take count events ≡ events_of qs m
  pub told : Told (last_of qs (idle lent m)) number count left events
  pub value_is : value ≡ (last_of qs (idle lent m)).value
