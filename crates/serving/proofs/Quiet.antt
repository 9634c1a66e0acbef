-- Calls of which none but the last says anything are noted at once: by induction over the calls done, one that says nothing only counts,
-- and counts add up. Assumes nothing.
use mathlib.Core.Path.{◌≡◌, refl, ap, ◌∙◌}
use mathlib.Core.Bool.{Bool, true, false, cond, not, ◌||◌, true≢false}
use mathlib.Core.List.{List, [], ◌∷◌, append-nil}
use Prim.Native.Nat.{ℕ, zero, suc, ◌+◌, ◌-◌, ◌≤◌}
use native.Mathlib.Omega.{arith}
use native.Mathlib.Decide.{ℕ_discrete}
use borrow.Author.Tests.{eq-eqb, ne_eqb}
use lib.Dec.{eqb}
use lib.ListN.{length}
use Rattle.time.specs.declared.Time.{Time}
use Rattle.std.proofs.lemmas.Bool.{or_parts}
use Rattle.lists.specs.Lists.{at}
use Rattle.lent.specs.declared.Request.{Request}
use Rattle.lent.specs.declared.Request.TheVariants.{WriteRegister, Write8, Read8, Read16, Protect, Reset, PowerOff, Environment}
use Rattle.lent.specs.Memory.{Memory}
use Rattle.lent.specs.Asked.{Outcome, outcome}
use Rattle.ledger.specs.Lists.{Asked}
use Rattle.lent.specs.declared.Asking.{Asking}
use Rattle.listing.specs.Calls.{call_at, asking_at}
use Rattle.listing.specs.Replaying.{stops, reads, idle, asks_after, last_of}
use Rattle.listing.proofs.Going.{unsaid, stopped}
use Rattle.settle.specs.declared.tally.Tally.{Tally}
use Rattle.settle.specs.Tallies.{raised, tallied}
use Rattle.settle.proofs.Tallied.{counted_none}
use Rattle.course.specs.declared.Complaint.{Complaint}
use Rattle.course.specs.declared.Course.{Course}
use Rattle.course.specs.declared.Manner.{Manner}
use Rattle.course.specs.Course.{with_calls}
use Rattle.course.specs.Desk.{Desk, events_said, value_said, call_said, noted, called, called_all, numbered_from}
use Rattle.serving.specs.Noting.{passed, noted_at_once}

-- ---- a call that says nothing only counts

pub tallied-none : (t : Tally) → tallied t [] ≡ t
unfolding tallied
tallied-none t = rw (counted_none 2 t.completed, counted_none 3 t.interrupted)

unread : (n : ℕ) (q : Request) (value : ℕ) → reads q ≡ false → value_said n q value ≡ []
unread n (WriteRegister a v) value e = refl
unread n (Write8 a v) value e = refl
unread n (Read8 a) value e = absurd (true≢false e)
unread n (Read16 a) value e = absurd (true≢false e)
unread n Protect value e = refl
unread n Reset value e = refl
unread n PowerOff value e = refl
unread n (Environment mode modul oscillator) value e = refl

unsaid-call : (events : Bool) (n : ℕ) (a : Asking) (value : ℕ) → reads a.request ≡ false → call_said events n a [] value ≡ []
unfolding events_said
unsaid-call true n a value e = unread n a.request value e
unsaid-call false n a value e = refl

-- counts add up
pub raised-more : (c a b : ℕ) → raised (raised c a) b ≡ raised c (a + b)
raised-more c a b = omega arith

-- one call more that said nothing
abbrev one_passed : Time → Course → Course
one_passed t c = with_calls 1 t c.counts.tally c

passed_on : (i last : ℕ) (calls : List ℕ) (c : Course) → suc i ≤ last → passed (suc i) last calls (one_passed (asking_at calls i).time c) ≡ passed i last calls c
unfolding passed
passed_on i last calls c h = by (ℕ_discrete (suc i) last)
  where
    here : eqb i last ≡ false
    here = ne_eqb i last (λ e. omega (arith, e))

    by : Dec (suc i ≡ last) → passed (suc i) last calls (one_passed (asking_at calls i).time c) ≡ passed i last calls c
    by (yes e) =
        let one : last - i ≡ 1 = omega arith in
        let same : last - 1 ≡ i = omega arith in
        rw (eq-eqb (suc i) last e, here, one, same)
    by (no d) =
        let more : last - i ≡ 1 + (last - suc i) = omega arith in
        rw (ne_eqb (suc i) last d, here, more, raised-more c.counts.made 1 (last - suc i))

passed_none : (i : ℕ) (calls : List ℕ) (c : Course) → passed i i calls c ≡ c
unfolding passed
passed_none i calls c = rw (eq-eqb i i refl)

-- ---- one call

-- the desk with a course, and memory and event words as a call left them
abbrev standing : Course → List ℕ → List Complaint → Outcome → Desk
standing c said cs o = record { course = c; memory = o.memory; events = o.events; said = said; complaints = cs }

-- what a call after that comes to
abbrev after : Asking → Outcome → Outcome
after a o = outcome a.request a.time o.events o.memory

module _ (w : Manner) (n : ℕ) (a : Asking) (c : Course) (said : List ℕ) (cs : List Complaint) (o : Outcome) where
  noted-idle : (lent : List ℕ) (m : Memory) → reads a.request ≡ false
      → noted w n a (idle lent m) (standing c said cs o) ≡ standing (one_passed a.time c) said cs (idle lent m)
  noted-idle lent m e = rw (tallied-none c.counts.tally, unsaid-call w.events n a 0 e, append-nil said)

  -- a call is noted unless the run has ended
  called_on : c.stopped ≡ false → called w n a (standing c said cs o) ≡ noted w n a (after a o) (standing c said cs o)
  unfolding called
  called_on on = rw on

  -- one that says nothing only counts
  called-quiet : c.stopped ≡ false → stops a.request (after a o).number (after a o).count ≡ false
      → called w n a (standing c said cs o) ≡ standing (one_passed a.time c) said cs (after a o)
  called-quiet on e =
      let p = after a o in
      let quiet : p ≡ idle o.events p.memory = unsaid a.request a.time o.events o.memory e in
      called_on on ∙ rw quiet (noted-idle o.events p.memory (or_parts (not (eqb p.number 0) || not (eqb p.count 0)) (reads a.request) e).1)

-- ---- one call after the other

module _ (w : Manner) (calls numbers said : List ℕ) (cs : List Complaint) where
  -- calls are done from the i-th on: one after the other, or noted at once
  abbrev each : List Asked → ℕ → Course → Outcome → Desk
  each qs i c o = called_all w (numbered_from (length qs) i calls numbers) (standing c said cs o)

  abbrev once : List Asked → ℕ → ℕ → Course → Outcome → Desk
  once qs i last c o = noted_at_once w i last calls numbers (last_of qs o) (standing c said cs o)

  abbrev Same : List Asked → ℕ → ℕ → Course → Outcome → Type 0
  Same qs i last c o = each qs i c o ≡ once qs i last c o

  -- the last one
  at_last : (i : ℕ) (c : Course) (o : Outcome) → c.stopped ≡ false → Same (call_at calls i o.events ∷ []) i i c o
  unfolding called_all numbered_from last_of
  at_last i c o on = called_on w (at numbers i) (asking_at calls i) c said cs o on ∙ rw (passed_none i calls c)

  -- one that says nothing, before others
  before-others : (rest : List Asked) (i last : ℕ) (c : Course) (o : Outcome) → c.stopped ≡ false → stopped calls i o ≡ false → suc i ≤ last
      → Same rest (suc i) last (one_passed (asking_at calls i).time c) (after (asking_at calls i) o)
      → Same (call_at calls i o.events ∷ rest) i last c o
  unfolding called_all numbered_from last_of
  before-others rest i last c o on e h others =
      let p = after (asking_at calls i) o in
      ap (λ (d : Desk). called_all w (numbered_from (length rest) (suc i) calls numbers) d) (called-quiet w (at numbers i) (asking_at calls i) c said cs o on e)
      ∙ others
      ∙ ap (λ (x : Course). noted w (at numbers last) (asking_at calls last) (last_of rest p) (standing x said cs p)) (passed_on i last calls c h)

  -- all that a replay does
  pub noted-once : (n i last : ℕ) (c : Course) (o : Outcome) → c.stopped ≡ false → i ≤ last → suc last ≡ i + length (asks_after o n i calls)
      → Same (asks_after o n i calls) i last c o
  unfolding asks_after
  noted-once zero i last c o on h k = absurd (omega arith)
  noted-once (suc n) i last c o on h k =
      let p = after (asking_at calls i) o in
      by (stopped calls i o) refl (asks_after p n (suc i) calls) k (ℕ_discrete i last) (noted-once n (suc i) last (one_passed (asking_at calls i).time c) p on)
    where
      alone : (qs : List Asked) → i ≡ last → suc last ≡ i + suc (length qs) → Same (call_at calls i o.events ∷ qs) i last c o
      alone [] e k = rw (← e) (at_last i c o on)
      alone (q ∷ qs) e k = absurd (omega arith)

      by : (b : Bool) → stopped calls i o ≡ b → (rest : List Asked) → suc last ≡ i + suc (length (cond b [] rest)) → Dec (i ≡ last)
          → (suc i ≤ last → suc last ≡ suc i + length rest → Same rest (suc i) last (one_passed (asking_at calls i).time c) (after (asking_at calls i) o))
          → Same (call_at calls i o.events ∷ cond b [] rest) i last c o
      by b e rest k (yes same) others = alone (cond b [] rest) same k
      by true e rest k (no d) others = absurd (omega arith)
      by false e rest k (no d) others = before-others rest i last c o on e (omega arith) (others (omega arith) (omega arith))
