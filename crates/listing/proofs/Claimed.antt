-- What is claimed of replays. By induction over the calls left each one is typed, and none but the last stops the replay; the ledger's
-- folds go through an append call by call; and demand 3, which holds of every typed list, holds of this one. Assumes nothing.
use mathlib.Core.Path.{◌≡◌, refl, sym, ap, ◌∙◌}
use mathlib.Core.Bool.{Bool, true, false, cond}
use mathlib.Core.List.{List, [], ◌∷◌, ◌++◌, append_assoc}
use Prim.Native.Nat.{ℕ, zero, suc, ◌-◌, ◌≤◌}
use native.Mathlib.Omega.{arith}
use lib.ListN.{length}
use Rattle.lent.specs.Memory.{Memory}
use Rattle.lent.specs.Asked.{Outcome}
use Rattle.ledger.specs.Lists.{Asked, asked, Typed, new_memory, memory_after, words_of, events_of}
use Rattle.ledger.proofs.Demand.{demand3}
use Rattle.listing.specs.Calls.{call_at}
use Rattle.listing.specs.Replaying.{stops, idle, end_in, asks_after, asks}
use Rattle.listing.specs.Claim.{Words, Quiet, Replay3}
use Rattle.listing.proofs.Numbers.{numbers-in, word_back}
use Rattle.listing.proofs.Going.{called, stopped}

typed-after : (n i : ℕ) (calls : List ℕ) (o : Outcome) → Words calls → Typed (asks_after o n i calls)
unfolding asks_after
typed-after zero i calls o w = tt
typed-after (suc n) i calls o w =
    (numbers-in _, record { whole = w _; part = w _ }, by (stopped calls i o) (typed-after n (suc i) calls (called calls i o) w))
  where
    by : (b : Bool) → Typed (asks_after (called calls i o) n (suc i) calls) → Typed (cond b [] (asks_after (called calls i o) n (suc i) calls))
    by true h = tt
    by false h = h

-- a list that goes on after a call, where the call does not stop it
quiet-more : (q : Asked) (qs : List Asked) (m : Memory) → stops q.request (asked q m).number (asked q m).count ≡ false → Quiet qs (asked q m).memory → Quiet (q ∷ qs) m
quiet-more q [] m e h = tt
quiet-more q (p ∷ qs) m e h = (e, h)

quiet-after : (n i : ℕ) (calls : List ℕ) (o : Outcome) → Quiet (asks_after o n i calls) o.memory
unfolding asks_after
quiet-after zero i calls o = tt
quiet-after (suc n) i calls o = by (stopped calls i o) refl (quiet-after n (suc i) calls (called calls i o))
  where
    by : (b : Bool) → stopped calls i o ≡ b → Quiet (asks_after (called calls i o) n (suc i) calls) (called calls i o).memory
        → Quiet (call_at calls i o.events ∷ cond b [] (asks_after (called calls i o) n (suc i) calls)) o.memory
    by true e h = tt
    by false e h = quiet-more (call_at calls i o.events) (asks_after (called calls i o) n (suc i) calls) o.memory e h

-- at least one call is done where one is left, and none past the end
length-after : (n i : ℕ) (calls : List ℕ) (o : Outcome) → length (asks_after o n i calls) ≤ n
unfolding asks_after
length-after zero i calls o = omega arith
length-after (suc n) i calls o = by (stopped calls i o) (length-after n (suc i) calls (called calls i o))
  where
    by : (b : Bool) → length (asks_after (called calls i o) n (suc i) calls) ≤ n
        → suc (length (cond b [] (asks_after (called calls i o) n (suc i) calls))) ≤ suc n
    by true h = omega arith
    by false h = omega arith

one-done : (n i : ℕ) (calls : List ℕ) (o : Outcome) → 1 ≤ n → 1 ≤ length (asks_after o n i calls)
unfolding asks_after
one-done zero i calls o h = absurd (omega arith)
one-done (suc n) i calls o h = omega arith

typed-append : (qs rs : List Asked) → Typed qs → Typed rs → Typed (qs ++ rs)
typed-append [] rs t u = u
typed-append (q ∷ qs) rs t u = (t.0, t.1, typed-append qs rs t.2 u)

memory-append : (qs rs : List Asked) (m : Memory) → memory_after (qs ++ rs) m ≡ memory_after rs (memory_after qs m)
unfolding memory_after
memory-append [] rs m = refl
memory-append (q ∷ qs) rs m = memory-append qs rs (asked q m).memory

events-append : (qs rs : List Asked) (m : Memory) → events_of (qs ++ rs) m ≡ events_of qs m ++ events_of rs (memory_after qs m)
unfolding events_of memory_after
events-append [] rs m = refl
events-append (q ∷ qs) rs m =
    let ws = words_of (asked q m) in
    let m' = (asked q m).memory in
    ap (λ (es : List ℕ). ws ++ es) (events-append qs rs m') ∙ sym (append_assoc ws (events_of qs m') (events_of rs (memory_after qs m')))

pub replay3 : Replay3
replay3 =
    record {
      back = word_back;
      typed = λ from to calls lent m w. typed-after (end_in to (length calls) - from) from calls (idle lent m) w;
      quiet = λ from to calls lent m. quiet-after (end_in to (length calls) - from) from calls (idle lent m);
      further = λ from to calls lent m h.
          let n = end_in to (length calls) - from in
          (one-done n from calls (idle lent m) (omega arith), omega (arith, length-after n from calls (idle lent m)));
      memory_pieces = memory-append;
      events_pieces = events-append;
      demand = λ firmware charges h small l qs t from to calls lent w.
          let m = memory_after qs (new_memory firmware charges) in
          let u = typed-append qs _ t (typed-after (end_in to (length calls) - from) from calls (idle lent m) w) in
          (u, demand3.of_every_list firmware charges h small l (qs ++ asks from to calls lent m) u);
    }
