-- Memory that is refused neither by 2 nor by 3 fits: its lengths, its slots, and a pulse and a pending sense that lie inside the array.
-- Assumes nothing.
use mathlib.Core.Path.{◌≡◌, refl}
use mathlib.Core.Bool.{Bool, true, false, cond, not, ◌||◌, true≢false}
use Prim.Native.Nat.{ℕ, ◌+◌, ◌≤◌}
use native.Mathlib.Omega.{arith}
use lib.Dec.{eqb}
use lib.ListN.{length}
use borrow.Author.Tests.{eqb-true, eq-eqb}
use Rattle.cell.specs.Cell.{array_bytes, array_cells}
use Rattle.control.specs.declared.PendingSense.{PendingSense}
use Rattle.std.specs.Prelude.{Option, Some, None}
use Rattle.settle.specs.Settling.{sense_address}
use Rattle.flash.specs.Chip.{Fit}
use Rattle.layout.specs.Layout.{record_length, accepted, decoded}
use Rattle.layout.specs.Whole.{PendingSound}
use Rattle.layout.proofs.Back.{decoded-index}
use Rattle.layout.proofs.Accepted.{accepted-sound}
use Rattle.lent.specs.Memory.{Memory, chip_in, misfits, sizes_misfit}
use Rattle.lent.specs.Looked.{register_refusal, memory_refusal}
use Rattle.flash.proofs.Inside.{pulse_inside}

pub record Sizes (bytes array charges : ℕ) : Type 0 where
  pub record_long : bytes ≡ record_length
  pub array_long : array ≡ array_bytes
  pub charges_long : charges ≡ array_cells

pub sizes-fit : (bytes array charges : ℕ) → sizes_misfit bytes array charges ≡ false → Sizes bytes array charges
sizes-fit bytes array charges e = by (eqb bytes record_length) (eqb array array_bytes) (eqb charges array_cells) refl refl refl e
  where
    by : (a b c : Bool) → eqb bytes record_length ≡ a → eqb array array_bytes ≡ b → eqb charges array_cells ≡ c
        → (not a || not b || not c) ≡ false → Sizes bytes array charges
    by true true true x y z h =
        record { record_long = eqb-true bytes record_length x; array_long = eqb-true array array_bytes y; charges_long = eqb-true charges array_cells z }
    by true true false x y z h = absurd (true≢false h)
    by true false c x y z h = absurd (true≢false h)
    by false b c x y z h = absurd (true≢false h)

sense_inside : (p : Option PendingSense) → PendingSound p → sense_address p + 4 ≤ array_bytes
sense_inside None s = omega arith
sense_inside (Some p) s = omega (arith, s.0, s.1)

pub fitted : (m : Memory) → Sizes (length m.bytes) (length m.array) (length m.charges) → accepted m.bytes ≡ true → Fit (chip_in m)
fitted m s a =
    let sound = accepted-sound m.bytes a in
    record {
      index_long = decoded-index m.bytes;
      array_long = s.array_long;
      charges_long = s.charges_long;
      slots = sound.slots;
      pulse_inside = pulse_inside (decoded m.bytes).registers sound.page_inside;
      sense_inside = sense_inside (decoded m.bytes).registers.verify_pending sound.pending;
    }

-- memory of the right lengths is refused as its record is
pub same-refusal : (m : Memory) → misfits m ≡ false → register_refusal m.bytes ≡ memory_refusal m
unfolding register_refusal memory_refusal
same-refusal m e = rw (e, eq-eqb _ _ (sizes-fit _ _ _ e).record_long)

-- memory that a call or look begins on
pub memory-taken : (m : Memory) → memory_refusal m ≡ 0 → (misfits m ≡ false) × (accepted m.bytes ≡ true)
unfolding memory_refusal
memory-taken m e = by (misfits m) (accepted m.bytes) refl refl e
  where
    by : (x y : Bool) → misfits m ≡ x → accepted m.bytes ≡ y → ◌≡◌ {A = ℕ} (cond x 2 (cond (not y) 3 0)) 0 → (misfits m ≡ false) × (accepted m.bytes ≡ true)
    by false true g h z = (g, h)
    by false false g h z = absurd (omega (arith, z))
    by true y g h z = absurd (omega (arith, z))
