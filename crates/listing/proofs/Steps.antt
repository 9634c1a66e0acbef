-- A replay past one call: a call on the chip that is held ends it or leaves the rest to the chip that the call left. Light calls do the
-- latter whatever memory is lent, and so do several of them, one after the other. Assumes nothing.
use mathlib.Core.Path.{◌≡◌, sym, ap, ◌∙◌}
use mathlib.Core.Bool.{true, false}
use mathlib.Core.List.{List}
use Prim.Native.Nat.{ℕ, ◌+◌, ◌≤◌, ◌<◌}
use native.Mathlib.Numerals.{add-one}
use native.Mathlib.Omega.{arith}
use Rattle.flash.specs.declared.Flash.{Flash}
use Rattle.flash.specs.Chip.{Chip, chip}
use Rattle.layout.specs.Whole.{TimeFits}
use Rattle.lent.specs.Memory.{memory_of}
use Rattle.lent.specs.Asked.{Outcome}
use Rattle.lent.specs.Held.{Ready, Reply, reply, written}
use Rattle.lent.specs.declared.Asking.{Asking}
use Rattle.ledger.specs.Lists.{Numbers}
use Rattle.listing.specs.Calls.{call_at, asking_at}
use Rattle.listing.specs.Replaying.{stops, idle}
use Rattle.listing.specs.Held.{ended, Onward}
use Rattle.listing.proofs.Holding.{Called, called}
use Rattle.listing.proofs.Going.{ended-end, ended-stop, ended-on, unsaid}

-- ---- one call

module _ (end i : ℕ) (calls lent : List ℕ) (k : Chip) (r : Reply) (h : i < end)
    (c : Called (call_at calls i lent).request (call_at calls i lent).time lent k r) where
  pub step-stop : stops (call_at calls i lent).request r.number r.count ≡ true
      → ended end i calls (idle lent (memory_of k)) ≡ record { done = i + 1; last = written r }
  step-stop e = rw (ended-stop end i calls (idle lent (memory_of k)) h (rw c.outcome_is e), c.outcome_is, add-one i)

  -- such a call has given no words and answered nothing
  silent : stops (call_at calls i lent).request r.number r.count ≡ false → written r ≡ idle lent (memory_of r.left)
  silent e =
      let o = unsaid (call_at calls i lent).request (call_at calls i lent).time lent (memory_of k) in
      rw c.outcome_is at (o (rw c.outcome_is e))

  pub step-on : stops (call_at calls i lent).request r.number r.count ≡ false
      → ended end i calls (idle lent (memory_of k)) ≡ ended end (i + 1) calls (idle lent (memory_of r.left))
  step-on e = rw (ended-on end i calls (idle lent (memory_of k)) h (rw c.outcome_is e), c.outcome_is, silent e, add-one i)

  pub step-events : stops (call_at calls i lent).request r.number r.count ≡ false → r.events ≡ lent
  step-events e = ap (λ (o : Outcome). o.events) (silent e)

-- ---- light calls

pub onward-more : {end : ℕ} {calls : List ℕ} {i j l : ℕ} {s t u : Flash} → Onward end calls i s j t → Onward end calls j t l u → Onward end calls i s l u
onward-more a b =
    record {
      later = omega (arith, a.later, b.later);
      ready = λ array charges h. b.ready array charges (a.ready array charges h);
      same = λ lent array charges h. a.same lent array charges h ∙ b.same lent array charges (a.ready array charges h);
    }

-- ---- from the first call to here

-- a replay that began at call i with chip k has come to call j with chip k', and has given no event words
pub record Gone (end : ℕ) (calls : List ℕ) (i : ℕ) (k : Chip) (lent : List ℕ) (j : ℕ) (k' : Chip) (events : List ℕ) : Type 0 where
  pub same : ended end i calls (idle lent (memory_of k)) ≡ ended end j calls (idle events (memory_of k'))
  pub ready : Ready k'
  pub events_stay : events ≡ lent

pub gone-light : {end : ℕ} {calls : List ℕ} {i : ℕ} {k : Chip} {lent : List ℕ} {j : ℕ} {s : Flash} {array charges events : List ℕ} {l : ℕ} {t : Flash}
    → Gone end calls i k lent j (chip s array charges) events → Onward end calls j s l t → Gone end calls i k lent l (chip t array charges) events
gone-light g o = record { same = g.same ∙ o.same _ _ _ g.ready; ready = o.ready _ _ g.ready; events_stay = g.events_stay }

module _ {end : ℕ} {calls : List ℕ} {i : ℕ} {k : Chip} {lent : List ℕ} {j : ℕ} {k' : Chip} {events : List ℕ} (g : Gone end calls i k lent j k' events) where
  pub gone-end : end ≤ j → ended end i calls (idle lent (memory_of k)) ≡ record { done = j; last = idle events (memory_of k') }
  gone-end h = g.same ∙ ended-end end j calls (idle events (memory_of k')) h

  -- the call there, by what it asks for and when
  module _ {r : Reply} {a : Asking} (h : j < end) (is : a ≡ asking_at calls j) (e : r ≡ reply a.request a.time events k')
      (fit : Numbers a.request × TimeFits a.time) where
    there : Called (call_at calls j events).request (call_at calls j events).time events k' r
    there = rw is at (called k' g.ready a.request a.time events fit.0 fit.1 e)

    pub gone-stop : true ≡ stops a.request r.number r.count → ended end i calls (idle lent (memory_of k)) ≡ record { done = j + 1; last = written r }
    gone-stop e = g.same ∙ step-stop end j calls events k' r h there (sym (rw is at e))

    pub gone-on : false ≡ stops a.request r.number r.count → Gone end calls i k lent (j + 1) r.left r.events
    gone-on e =
        let d = sym (rw is at e) in
        let s = step-events end j calls events k' r h there d in
        record {
          same = g.same ∙ step-on end j calls events k' r h there d ∙ ap (λ (es : List ℕ). ended end (j + 1) calls (idle es (memory_of r.left))) (sym s);
          ready = there.ready;
          events_stay = s ∙ g.events_stay;
        }
