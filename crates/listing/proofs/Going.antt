-- How a replay goes: past a call that does not stop it, it is the replay from the next call on; one that stops it, or the list's end, ends
-- it. Where it ends, the ledger's folds over the calls done are what the last of them left and gave, since no other gave event words.
-- Assumes nothing.
use mathlib.Core.Path.{◌≡◌, refl, sym, ap, ◌∙◌}
use mathlib.Core.Bool.{Bool, true, false, cond, not, ◌||◌, true≢false}
use mathlib.Core.List.{List, [], ◌∷◌, ◌++◌, append-nil}
use Prim.Native.Nat.{ℕ, zero, suc, ◌+◌, ◌-◌, ◌≤◌, ◌<◌}
use native.Mathlib.Nat.{add-suc, add-zero, suc-add}
use native.Mathlib.Numerals.{add-one}
use native.Mathlib.Omega.{arith}
use borrow.Author.Tests.{not-false}
use lib.Dec.{eqb, eqb-suc-zero}
use lib.ListN.{length, take}
use lib.Seq.{sets}
use Rattle.std.proofs.lemmas.Bool.{or_parts}
use Rattle.time.specs.declared.Time.{Time}
use Rattle.flash.specs.Chip.{Chip, step, answer}
use Rattle.lent.specs.declared.Request.{Request}
use Rattle.lent.specs.declared.Request.TheVariants.{WriteRegister, Write8, Read8, Read16, Protect, Reset, PowerOff, Environment}
use Rattle.lent.specs.Memory.{Memory, chip_in, memory_of}
use Rattle.lent.specs.Asked.{Outcome, Told, call_of, refusal, outcome_by, outcome}
use Rattle.ledger.specs.Lists.{Asked, asked, memory_after, words_of, events_of}
use Rattle.listing.specs.Calls.{call_at}
use Rattle.listing.specs.Replaying.{stops, reads, idle, asks_after, last_of, Replays}
use Rattle.listing.specs.Held.{Ended, ended}

-- ---- one call further

-- the outcome of the i-th call after another outcome, and whether it stops the replay
abbrev pub called : List ℕ → ℕ → Outcome → Outcome
called calls i o = asked (call_at calls i o.events) o.memory

abbrev pub stopped : List ℕ → ℕ → Outcome → Bool
stopped calls i o = stops (call_at calls i o.events).request (called calls i o).number (called calls i o).count

module _ (end i : ℕ) (calls : List ℕ) (o : Outcome) where
  one_more : i < end → end - i ≡ suc (end - suc i)
  one_more h = omega arith

  pub ended-end : end ≤ i → ended end i calls o ≡ record { done = i; last = o }
  unfolding asks_after last_of
  ended-end h = let d : end - i ≡ 0 = omega arith in rw (d, add-zero i)

  pub ended-stop : i < end → stopped calls i o ≡ true → ended end i calls o ≡ record { done = suc i; last = called calls i o }
  unfolding asks_after last_of
  ended-stop h e = rw (one_more h, e, add-suc i 0, add-zero i)

  pub ended-on : i < end → stopped calls i o ≡ false → ended end i calls o ≡ ended end (suc i) calls (called calls i o)
  unfolding asks_after last_of
  ended-on h e =
      let n = length (asks_after (called calls i o) (end - suc i) (suc i) calls) in
      rw (one_more h, e, add-suc i n, suc-add i n)

-- ---- where it ends

last-memory : (qs : List Asked) (o : Outcome) → (last_of qs o).memory ≡ memory_after qs o.memory
unfolding last_of memory_after
last-memory [] o = refl
last-memory (q ∷ qs) o = last-memory qs (asked q o.memory)

-- a call that does not stop a replay gave no words
quiet : (number count : ℕ) (read : Bool) (events : List ℕ) → (not (eqb number 0) || not (eqb count 0) || read) ≡ false → take count events ≡ []
quiet number zero read events e = refl
quiet number (suc count) read events e =
    let z = (or_parts (not (eqb number 0) || not (eqb (suc count) 0)) read e).0 in
    absurd (true≢false (rw (eqb-suc-zero count) at (or_parts (not (eqb number 0)) (not (eqb (suc count) 0)) z).1))

last-words : (n i : ℕ) (calls : List ℕ) (o : Outcome) → words_of o ≡ []
    → words_of (last_of (asks_after o n i calls) o) ≡ events_of (asks_after o n i calls) o.memory
unfolding asks_after last_of events_of
last-words zero i calls o w = w
last-words (suc n) i calls o w = by (stopped calls i o) refl (last-words n (suc i) calls (called calls i o))
  where
    by : (b : Bool) → stopped calls i o ≡ b
        → (words_of (called calls i o) ≡ []
        → words_of (last_of (asks_after (called calls i o) n (suc i) calls) (called calls i o))
        ≡ events_of (asks_after (called calls i o) n (suc i) calls) (called calls i o).memory)
        → words_of (last_of (cond b [] (asks_after (called calls i o) n (suc i) calls)) (called calls i o))
        ≡ words_of (called calls i o) ++ events_of (cond b [] (asks_after (called calls i o) n (suc i) calls)) (called calls i o).memory
    by true e rest = sym (append-nil (words_of (called calls i o)))
    by false e rest =
        let p = called calls i o in
        let z = quiet p.number p.count (reads (call_at calls i o.events).request) p.events e in
        rest z ∙ ap (λ (ws : List ℕ). ws ++ events_of (asks_after p n (suc i) calls) p.memory) (sym z)

-- what it leaves and says there
pub replays : (end from : ℕ) (calls lent : List ℕ) (m : Memory) {done number value count : ℕ} {left : Memory} {events : List ℕ}
    → ended end from calls (idle lent m) ≡ record { done = done; last = record { number = number; value = value; memory = left; events = events; count = count } }
    → Replays from (asks_after (idle lent m) (end - from) from calls) lent m done number value count left events
replays end from calls lent m e =
    let qs = asks_after (idle lent m) (end - from) from calls in
    let o = ap (λ (x : Ended). x.last) e in
    record {
      done_is = sym (ap (λ (x : Ended). x.done) e);
      memory_is = sym (ap (λ (x : Outcome). x.memory) o) ∙ last-memory qs (idle lent m);
      given_are = sym (ap words_of o) ∙ last-words (end - from) from calls (idle lent m) refl;
      told = record {
        number_is = sym (ap (λ (x : Outcome). x.number) o);
        count_is = sym (ap (λ (x : Outcome). x.count) o);
        memory_is = sym (ap (λ (x : Outcome). x.memory) o);
        events_are = sym (ap (λ (x : Outcome). x.events) o);
      };
      value_is = sym (ap (λ (x : Outcome). x.value) o);
    }

-- ---- a call that stops nothing says nothing

none : (es : List ℕ) → eqb (length es) 0 ≡ true → es ≡ []
none [] e = refl
none (x ∷ es) e = absurd (true≢false (sym (rw (eqb-suc-zero (length es)) at e)))

unread : (q : Request) (t : Time) (k : Chip) → reads q ≡ false → answer (call_of q) t k ≡ 0
unfolding answer
unread (WriteRegister a v) t k e = refl
unread (Write8 a v) t k e = refl
unread (Read8 a) t k e = absurd (true≢false e)
unread (Read16 a) t k e = absurd (true≢false e)
unread Protect t k e = refl
unread Reset t k e = refl
unread PowerOff t k e = refl
unread (Environment mode modul oscillator) t k e = refl

pub unsaid : (q : Request) (t : Time) (lent : List ℕ) (m : Memory) → stops q (outcome q t lent m).number (outcome q t lent m).count ≡ false
    → outcome q t lent m ≡ idle lent (outcome q t lent m).memory
unfolding outcome outcome_by
unsaid q t lent m e = by (refusal q t (length lent) m) e
  where
    by : (n : ℕ) → stops q (outcome_by n q t lent m).number (outcome_by n q t lent m).count ≡ false
        → outcome_by n q t lent m ≡ idle lent (outcome_by n q t lent m).memory
    by zero e =
        let p = or_parts _ (reads q) e in
        let done = step (call_of q) t (chip_in m) in
        let z = none done.events (not-false _ (or_parts (not (eqb 0 0)) _ p.0).1) in
        λ i. record { number = 0; value = unread q t (chip_in m) p.1 i; memory = memory_of done.chip; events = sets lent 0 (z i); count = length (z i) }
    by (suc n) e = absurd (true≢false (rw (eqb-suc-zero n) at (or_parts (not (eqb (suc n) 0)) _ (or_parts _ (reads q) e).0).0))

-- ---- the first call is refused

pub told_is : {o : Outcome} {number value count : ℕ} {left : Memory} {events : List ℕ} → Told o number count left events → value ≡ o.value
    → o ≡ record { number = number; value = value; memory = left; events = events; count = count }
told_is t v =
    λ i. record { number = sym t.number_is i; value = sym v i; memory = sym t.memory_is i; events = sym t.events_are i; count = sym t.count_is i }

pub refused-first : (end from : ℕ) (calls lent : List ℕ) (m : Memory) → from < end → (n : ℕ) → 1 ≤ n
    → record { number = n; value = 0; memory = m; events = lent; count = 0 } ≡ asked (call_at calls from lent) m
    → Replays from (asks_after (idle lent m) (end - from) from calls) lent m (from + 1) n 0 0 m lent
refused-first end from calls lent m h zero f e = absurd (omega arith)
refused-first end from calls lent m h (suc n) f e =
    let o = sym e in
    let s = ended-stop end from calls (idle lent m) h (rw (o, eqb-suc-zero n)) in
    replays end from calls lent m (rw (s, o, add-one from))
