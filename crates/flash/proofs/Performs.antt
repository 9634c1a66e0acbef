-- A call that settles, from what its parts leave: the settle, the end event, the sensed bytes, the registers and the answer make up the
-- step of the definition. Room for the end event's word is left, because a settle gives at most one word for each byte of the range.
-- Assumes nothing.
use mathlib.Core.Path.{◌≡◌, ap, sym, ◌∙◌}
use mathlib.Core.Bool.{true, false}
use mathlib.Core.List.{List}
use Prim.Native.Nat.{ℕ, ◌+◌, ◌≤◌, ◌<◌}
use native.Mathlib.Nat.{zero-add}
use native.Mathlib.Omega.{arith}
use native.Mathlib.Decide.{dec_le}
use lib.ListN.{length, length-append}
use lib.Seq.{sets, length-sets}
use Rattle.std.specs.Prelude.{Option}
use Rattle.time.specs.declared.Time.{Time}
use Rattle.registers.specs.declared.Registers.{Registers}
use Rattle.registers.specs.declared.Call.{Call}
use Rattle.registers.specs.Pulses.{pulse}
use Rattle.registers.specs.Calls.{settles, next}
use Rattle.settle.specs.Views.{cells_of}
use Rattle.settle.specs.Settling.{range_bytes, changes, settled_by, ends_of, end_words, sensed_by, Left}
use Rattle.flash.specs.Chip.{Chip, registers, cells, settled_at, step, step_if, sensed_after, settled_answer, stored_answer, answer_limit, Fit, Performed, chip}
use Rattle.lists.proofs.Stores.{sets-append}
use Rattle.flash.proofs.Room.{changes-room}
use Rattle.registers.specs.declared.Pulse.{Pulse}
use Rattle.flash.proofs.Answers.{settled-value, stored-value}

-- k + 1 words, where k is not 0, are at least k
pub room-le : (k n : ℕ) → (1 ≤ k → k < n) → k ≤ n
room-le k n h = by (dec_le 1 k)
  where
    by : Dec (1 ≤ k) → k ≤ n
    by (yes g) = omega (arith, h g)
    by (no g) = omega arith

module _ (now : Time) (k : Chip) (fit : Fit k) (o : Option Pulse) (open_is : o ≡ pulse (registers k)) {lent index array charges events : List ℕ} {count : ℕ}
    (left : Left (settled_by o (registers k).latch k.flash.pulse_since now (cells k))
    (changes 0 k.array (settled_by o (registers k).latch k.flash.pulse_since now (cells k)).array) lent index array charges events count) where
  pub count_room : count ≤ range_bytes o
  count_room = rw (left.count_is, open_is) (changes-room now k)

  pub end-room : (1 ≤ range_bytes (pulse (registers k)) → range_bytes (pulse (registers k)) < length lent) → 1 ≤ range_bytes o → count < length events
  end-room h g =
      let e = ap length left.events_are ∙ length-sets lent 0 (changes 0 k.array (settled_by o (registers k).latch k.flash.pulse_since now (cells k)).array) in
      let l = h (rw open_is at g) in
      let m : count ≤ range_bytes (pulse (registers k)) = rw open_is at count_room in
      omega (arith, e)

  abbrev ends : Call → List ℕ
  ends c = ends_of c (next c now (registers k)).control (pulse (registers k)) (pulse (next c now (registers k)))

  pub performs : (c : Call) → settles c now (registers k) ≡ true → (r : Registers) → r ≡ next c now (registers k)
      → {events' : List ℕ} {count' : ℕ} → events' ≡ sets events count (ends_of c r.control o (pulse r)) → count' ≡ count + length (ends_of c r.control o (pulse r))
      → {sensed : List ℕ} → sensed ≡ sensed_by (registers k) now (cells_of index array charges) k.flash.sensed
      → {value : ℕ} → value ≡ settled_answer c now o (registers k) sensed → value < answer_limit c
      → {kept : List ℕ} → kept ≡ sensed_after c sensed
      → Performed c now k lent (chip (record (k.flash) { registers = r; pulse_since = now; sensed = kept; indices = index }) array charges) events' value count'
  unfolding step step_if end_words
  performs c s r n e₁ e₂ e₃ e₄ small e₅ =
      record {
        chip_is = rw (s, e₅, e₃, n, left.index_is, left.array_is, left.charges_is, open_is);
        events_are = rw s (e₁ ∙ rw (left.events_are, left.count_is, n, open_is) (sym (rw zero-add at (sets-append lent 0 (changes 0 k.array (settled_at now k).array) (ends c)))));
        value_is = e₄ ∙ rw (e₃, left.index_is, left.array_is, left.charges_is, open_is) (sym (settled-value c now k s));
        value_small = small;
        count_is = rw s (e₂ ∙ rw (left.count_is, n, open_is) (sym (length-append (changes 0 k.array (settled_at now k).array) (ends c))));
      }

-- a call that does not settle
pub performs-stored : (c : Call) (now : Time) (k : Chip) (lent : List ℕ) → settles c now (registers k) ≡ false → (r : Registers) → r ≡ next c now (registers k)
    → (value : ℕ) → value ≡ stored_answer c k.array → value < answer_limit c
    → Performed c now k lent (chip (record (k.flash) { registers = r }) k.array k.charges) lent value 0
unfolding step step_if
performs-stored c now k lent s r n value e small =
    record {
      chip_is = rw (s, n);
      events_are = rw s;
      value_is = e ∙ sym (stored-value c now k s);
      value_small = small;
      count_is = rw s;
    }
