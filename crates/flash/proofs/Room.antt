-- How many event words a call gives: at most one for each byte of the open pulse's range and one for its end, and none where the range
-- has no byte. So words for one more than the range are enough. Assumes nothing.
use mathlib.Core.Path.{◌≡◌, refl}
use mathlib.Core.Bool.{Bool, true, false, cond}
use mathlib.Core.List.{List, [], ◌∷◌}
use Prim.Native.Nat.{ℕ, zero, suc, ◌+◌, ◌*◌, ◌≤◌, ◌<◌}
use native.Mathlib.Nat.{le_trans}
use native.Mathlib.Omega.{arith}
use native.Mathlib.Decide.{dec_le}
use borrow.Author.Tests.{eq-eqb}
use lib.ListN.{length, length-append}
use lib.Dec.{eqb}
use Rattle.std.specs.Prelude.{Option, Some, None}
use Rattle.time.specs.declared.Time.{Time}
use Rattle.registers.specs.declared.Pulse.{Pulse}
use Rattle.registers.specs.declared.Call.{Call}
use Rattle.registers.specs.Pulses.{pulse}
use Rattle.registers.specs.Calls.{next, settles, ending, ending_number}
use Rattle.settle.specs.Pages.{Cells}
use Rattle.settle.specs.Settling.{range_bytes, exposure, expose, settled_by, word, changes, same_pulse, end_of, ended, ends_of, end_words}
use Rattle.flash.specs.Chip.{Chip, registers, cells, settled_at, step_if, step}
use Rattle.settle.proofs.Loop.{changes-same}
use Rattle.settle.proofs.Place.{changes-count, resensed-spanned}

-- ---- changed bytes

expose-room : (p : Pulse) (latch : List ℕ) (l : ℕ) (c : Cells) → length (changes 0 c.array (expose p latch l c).array) ≤ p.pages * 128
unfolding expose
expose-room p latch zero c = rw (changes-same 0 c.array) (omega arith)
expose-room p latch (suc l) c =
    rw resensed-spanned (le_trans (changes-count (p.first * 128) ((p.first + p.pages) * 128) _ 0 c.array) (omega arith))

settled-room : (latch : List ℕ) (since now : Time) (c : Cells) (o : Option Pulse)
    → length (changes 0 c.array (settled_by o latch since now c).array) ≤ range_bytes o
unfolding settled_by
settled-room latch since now c None = rw (changes-same 0 c.array) (omega arith)
settled-room latch since now c (Some p) = expose-room p latch (exposure p since now) c

pub changes-room : (now : Time) (k : Chip) → length (changes 0 k.array (settled_at now k).array) ≤ range_bytes (pulse (registers k))
changes-room now k = settled-room (registers k).latch k.flash.pulse_since now (cells k) (pulse (registers k))

-- ---- the end

end-room : (b : Bool) (w : ℕ) → length (cond b [] (w ∷ [])) ≤ 1
end-room true w = omega arith
end-room false w = omega arith

ended-room : (c : Call) (control : ℕ) (o : Option Pulse) → length (ended c control o) ≤ 1
unfolding ended end_of
ended-room c control None = omega arith
ended-room c control (Some p) =
    end-room (eqb p.pages 0) (word (ending_number (ending p.direction c control)) (p.first * 128) (p.pages * 128))

ended-none : (c : Call) (control : ℕ) (o : Option Pulse) → range_bytes o ≡ 0 → ended c control o ≡ []
unfolding ended end_of
ended-none c control None e = refl
ended-none c control (Some p) e = rw (eq-eqb p.pages 0 (omega arith))

module _ (c : Call) (control : ℕ) (old new : Option Pulse) where
  pub ends-room : length (ends_of c control old new) ≤ 1
  ends-room = by (same_pulse old new)
    where
      by : (b : Bool) → length (cond b [] (ended c control old)) ≤ 1
      by true = omega arith
      by false = ended-room c control old

  -- a range without a byte has no end event
  pub ends-none : range_bytes old ≡ 0 → ends_of c control old new ≡ []
  ends-none e = by (same_pulse old new)
    where
      by : (b : Bool) → cond b [] (ended c control old) ≡ []
      by true = refl
      by false = ended-none c control old e

-- ---- a call's words

pub events-room : (c : Call) (now : Time) (k : Chip) (n : ℕ)
    → (settles c now (registers k) ≡ true → 1 ≤ range_bytes (pulse (registers k)) → range_bytes (pulse (registers k)) < n)
    → length (step c now k).events ≤ n
unfolding step step_if end_words
events-room c now k n room = by (settles c now (registers k)) refl
  where
    ends : List ℕ
    ends = end_words c now (registers k)

    few : Dec (1 ≤ range_bytes (pulse (registers k))) → (1 ≤ range_bytes (pulse (registers k)) → range_bytes (pulse (registers k)) < n)
        → length (changes 0 k.array (settled_at now k).array) + length ends ≤ n
    few (yes h) room =
        omega (arith, room h, changes-room now k, ends-room c (next c now (registers k)).control (pulse (registers k)) (pulse (next c now (registers k))))
    few (no h) room =
        rw (ends-none c (next c now (registers k)).control (pulse (registers k)) (pulse (next c now (registers k))) (omega arith))
        (omega (arith, changes-room now k))

    by : (b : Bool) → settles c now (registers k) ≡ b → length (step_if b c now k).events ≤ n
    by true e = rw length-append (few (dec_le 1 (range_bytes (pulse (registers k)))) (room e))
    by false e = omega arith
