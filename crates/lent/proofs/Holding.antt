-- A chip held by value between two calls: memory that is opened holds such a chip and is what it is written as. The memory of such a chip is
-- refused neither by 2 nor by 3 and reads back as the chip, so that a call over that memory is a call on the chip. Assumes nothing.
use mathlib.Core.Path.{◌≡◌, refl, sym, ap, ◌∙◌}
use mathlib.Core.Bool.{true, false}
use mathlib.Core.List.{List}
use Prim.Native.Nat.{ℕ, zero, suc, ◌≤◌, ◌<◌}
use native.Mathlib.Omega.{arith}
use borrow.Author.Tests.{eq-eqb}
use lib.ListN.{length}
use Rattle.refusal.specs.declared.Refusal.{Refusal}
use Rattle.refusal.specs.Refusal.{number, told, Answers}
use Rattle.refusal.proofs.Outcomes.{number-some}
use Rattle.std.specs.Prelude.{Result, Ok, Err, IfOk, OnOk}
use Rattle.time.specs.declared.Time.{Time}
use Rattle.lists.specs.Lists.{at}
use Rattle.flash.specs.declared.Answer.{Answer}
use Rattle.flash.specs.declared.Flash.{Flash}
use Rattle.flash.specs.Chip.{Chip, chip, Fit, Performed}
use Rattle.layout.specs.Layout.{record_length, accepted, encoded, decoded}
use Rattle.layout.proofs.Back.{written-reads-back, length-encoded, decoded-fits}
use Rattle.layout.proofs.Accepted.{accepted-writes-back, accepted-sound, accepted-encoded}
use Rattle.lent.specs.declared.Request.{Request}
use Rattle.lent.specs.Memory.{Memory, lent, chip_in, memory_of, misfits}
use Rattle.lent.specs.Asked.{call_of, call_checks, call_refusal, refusal, outcome_by, outcome, came_to}
use Rattle.lent.specs.Looked.{memory_checks, register_refusal, memory_refusal}
use Rattle.lent.specs.Held.{Ready, Opened, Reply, reply_by, reply, replied, written}
use Rattle.lent.proofs.Lines.{given-first}
use Rattle.lent.proofs.Fitted.{Sizes, sizes-fit, fitted, memory-taken, same-refusal}

-- ---- from memory

module _ (m : Memory) (taken : memory_refusal m ≡ 0) (small : (b : ℕ) → at m.bytes b < 256) where
  known : accepted m.bytes ≡ true
  known = (memory-taken m taken).1

  lengths : Sizes (length m.bytes) (length m.array) (length m.charges)
  lengths = sizes-fit (length m.bytes) (length m.array) (length m.charges) (memory-taken m taken).0

  pub opened : (s : Flash) → s ≡ decoded m.bytes → Opened m s
  opened s e =
      record {
        taken = taken;
        chip_is = rw e;
        memory_is = ap (λ (bs : List ℕ). lent bs m.array m.charges) (sym (accepted-writes-back m.bytes lengths.record_long small known));
        ready = record { fits = decoded-fits m.bytes small; sound = accepted-sound m.bytes known; array_long = lengths.array_long; charges_long = lengths.charges_long };
      }

-- by what a record was read as
pub opened-if : (m : Memory) (r : Result Flash Refusal) → misfits m ≡ false → Answers (register_refusal m.bytes) (decoded m.bytes) r
    → OnOk r ((b : ℕ) → at m.bytes b < 256) → (told r ≡ memory_refusal m) × IfOk r (λ s. Opened m s)
opened-if m (Ok s) e a small = let z = sym (same-refusal m e) ∙ a.0 in (sym z, opened m z small s a.1)
opened-if m (Err r) e a small = (a ∙ same-refusal m e, tt)

-- ---- a call over its memory

module _ (k : Chip) (h : Ready k) where
  sizes-held : misfits (memory_of k) ≡ false
  sizes-held = rw (eq-eqb _ _ (length-encoded k.flash h.fits), eq-eqb _ _ h.array_long, eq-eqb _ _ h.charges_long)

  known-held : accepted (encoded k.flash) ≡ true
  known-held = accepted-encoded k.flash h.fits h.sound

  flash-back : decoded (encoded k.flash) ≡ k.flash
  flash-back = written-reads-back k.flash h.fits

  chip-back : chip_in (memory_of k) ≡ k
  chip-back = ap (λ (s : Flash). chip s k.array k.charges) flash-back

  pub ready-fit : Fit k
  ready-fit = rw chip-back at (fitted (memory_of k) (sizes-fit _ _ _ sizes-held) known-held)

  module _ (q : Request) (t : Time) (words : List ℕ) where
    refusal-held : refusal q t (length words) (memory_of k) ≡ call_refusal q t (length words) k.flash
    unfolding refusal call_refusal
    refusal-held = rw (sizes-held, known-held, flash-back)

    pub outcome-held : outcome q t words (memory_of k) ≡ written (reply q t words k)
    unfolding outcome reply outcome_by reply_by
    outcome-held = rw refusal-held (by (call_refusal q t (length words) k.flash))
      where
        by : (n : ℕ) → outcome_by n q t words (memory_of k) ≡ written (reply_by n q t words k)
        by zero = rw chip-back
        by (suc n) = refl

-- ---- a call on it

module _ (q : Request) (t : Time) (words : List ℕ) (k : Chip) where
  -- refused
  pub replied-refused : (r : Refusal) → number r ≡ call_refusal q t (length words) k.flash → replied (Err r) words k ≡ reply q t words k
  unfolding reply reply_by
  replied-refused r e = rw (sym e) (by (number r) (number-some r))
    where
      by : (n : ℕ) → 1 ≤ n → record { number = n; value = 0; left = k; events = words; count = 0 } ≡ reply_by n q t words k
      by zero h = absurd (omega arith)
      by (suc n) h = refl

  -- performed
  pub replied-done : 0 ≡ call_refusal q t (length words) k.flash → (a : Answer) {k' : Chip} {events : List ℕ}
      → Performed (call_of q) t k words k' events a.value a.count → replied (Ok a) events k' ≡ reply q t words k
  unfolding reply reply_by
  replied-done e a p =
      rw (sym e)
      (λ i. record { number = 0; value = p.value_is i; left = p.chip_is i; events = p.events_are i; count = p.count_is i })

  -- which keeps the chip and the words
  pub reply-kept : (r : Refusal) {k' : Chip} {events : List ℕ} → replied (Err r) events k' ≡ reply q t words k → (k' ≡ k) × (events ≡ words)
  unfolding reply reply_by
  reply-kept r {k'} {events} e = by (call_refusal q t (length words) k.flash) e
    where
      by : (n : ℕ) → replied (Err r) events k' ≡ reply_by n q t words k → (k' ≡ k) × (events ≡ words)
      by zero e = absurd (omega (arith, number-some r, ap (λ (x : Reply). x.number) e))
      by (suc n) e = (ap (λ (x : Reply). x.left) e, ap (λ (x : Reply). x.events) e)

-- ---- over memory that was opened

pub opened-long : (m : Memory) (s : Flash) → Opened m s → length m.bytes ≡ record_length
opened-long m s o = (sizes-fit (length m.bytes) (length m.array) (length m.charges) (memory-taken m o.taken).0).record_long

pub opened-fit : (m : Memory) (s : Flash) → Opened m s → Fit (chip s m.array m.charges)
opened-fit m s o = rw (sym o.chip_is) at (ready-fit (chip_in m) o.ready)

module _ (q : Request) (t : Time) (words : List ℕ) (m : Memory) where
  -- memory that is refused
  pub asked-first : (r : Refusal) → number r ≡ memory_refusal m → came_to (Err r) words m ≡ outcome q t words m
  unfolding refusal memory_refusal outcome outcome_by
  asked-first r e =
      let first = given-first (memory_checks m) (call_checks q t (length words) (decoded m.bytes)) _ e (λ z. omega (arith, number-some r)) in
      rw (sym first) (by (number r) (number-some r))
    where
      by : (n : ℕ) → 1 ≤ n → record { number = n; value = 0; memory = m; events = words; count = 0 } ≡ outcome_by n q t words m
      by zero h = absurd (omega arith)
      by (suc n) h = refl

  module _ (s : Flash) (o : Opened m s) where
    outcome-opened : outcome q t words m ≡ written (reply q t words (chip s m.array m.charges))
    outcome-opened =
        ap (outcome q t words) o.memory_is ∙ outcome-held (chip_in m) o.ready q t words ∙ ap (λ (k : Chip). written (reply q t words k)) (sym o.chip_is)

    -- a call refused
    pub asked-refused : (r : Refusal) {s' : Flash} {array charges events : List ℕ}
        → replied (Err r) events (chip s' array charges) ≡ reply q t words (chip s m.array m.charges)
        → came_to (Err r) events (lent m.bytes array charges) ≡ outcome q t words m
    asked-refused r {s'} {array} {charges} {events} e =
        let k = reply-kept q t words _ r e in
        let b : m.bytes ≡ encoded s' = ap (λ (x : Memory). x.bytes) o.memory_is ∙ ap (λ (x : Chip). encoded x.flash) (sym (k.0 ∙ o.chip_is)) in
        rw b (ap written e) ∙ sym outcome-opened

    -- and one written
    pub asked-done : (result : Result Answer Refusal) {s' : Flash} {bytes array charges events : List ℕ}
        → replied result events (chip s' array charges) ≡ reply q t words (chip s m.array m.charges) → bytes ≡ encoded s'
        → came_to result events (lent bytes array charges) ≡ outcome q t words m
    asked-done result e b = rw b (ap written e) ∙ sym outcome-opened
