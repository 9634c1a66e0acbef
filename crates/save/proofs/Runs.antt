-- The runs of fields of a snapshot's state as rows of numbers: what the format writes of a run is what `put_row` and
-- `put` write of its numbers. Each by unfolding the format.
-- Assumes nothing.
use mathlib.Core.Path.{◌≡◌, refl}
use mathlib.Core.Bool.{Bool, true, false}
use Rattle.std.specs.Int.{from_bool}
use mathlib.Core.List.{List, [], ◌∷◌, ◌++◌, map, append_assoc, append-nil}
use Prim.Native.Nat.{ℕ}
use lib.ListN.{take}
use Rattle.time.specs.declared.Time.{Time}
use Rattle.time.specs.Raw.{raw}
use Rattle.std.specs.Prelude.{Some, None}
use Rattle.control.specs.Supplies.{supply_number, mode_number}
use Rattle.rows.specs.Rows.{bytes, row_bytes, flag_byte}
use Rattle.borsh.specs.Borsh.{int, bool, enum, only, mapped, ◌then◌, option, write_all, array}
use Rattle.snapshot.specs.Snapshot.{Controls, Latched, Supplies, Instants, State, controls, latched, supply, mode, supplies, time, instants, pending, state}

-- ---- one after the other

-- bytes written after those that stand already
pub after : (k n m : ℕ) (l l' xs ys : List ℕ) → take n l' ≡ take k l ++ ys → take k l ≡ xs → m ≡ n → take m l' ≡ xs ++ ys
after k n m l l' xs ys e f d = rw (d, e, f)

pub write_all-bytes : (w : ℕ) (vs : List ℕ) → write_all (bytes w) vs ≡ row_bytes w vs
unfolding write_all row_bytes
write_all-bytes w [] = refl
write_all-bytes w (v ∷ vs) = rw (write_all-bytes w vs)

-- ---- single bytes

-- a flag as the library makes it a byte
pub flag-from : (b : Bool) → from_bool b ≡ flag_byte b
flag-from true = refl
flag-from false = refl

pub controls-row : (v : Controls)
    → controls.write v ≡ row_bytes 1 (v.0 ∷ flag_byte v.1.0 ∷ v.1.1.0 ∷ flag_byte v.1.1.1.0 ∷ flag_byte v.1.1.1.1 ∷ [])
unfolding controls ◌then◌ bool enum mapped only int bytes row_bytes
controls-row v = refl

pub supplies-row : (v : Supplies)
    → supplies.write v ≡ row_bytes 1 (supply_number v.0 ∷ flag_byte v.1.0 ∷ mode_number v.1.1.0 ∷ flag_byte v.1.1.1 ∷ [])
unfolding supplies supply mode ◌then◌ bool enum mapped only int bytes row_bytes
supplies-row v = refl

-- ---- latch and page

pub latched-row : (v : Latched) → latched.write v ≡ row_bytes 1 v.0 ++ bytes 2 v.1
unfolding latched ◌then◌ array int
latched-row v = rw (write_all-bytes 1 v.0)

-- ---- instants

pub instants-row : (v : Instants)
    → instants.write v
    ≡ row_bytes 16 (map raw (v.0 ∷ v.1.0 ∷ v.1.1.0 ∷ v.1.1.1.0 ∷ v.1.1.1.1.0 ∷ v.1.1.1.1.1.0 ∷ v.1.1.1.1.1.1 ∷ []))
unfolding instants ◌then◌ time mapped int row_bytes
instants-row v = rw (append-nil (bytes 16 (raw v.1.1.1.1.1.1)))

-- ---- a pending sense

pub nothing-row : pending.write None ≡ bytes 1 0
unfolding pending mapped option bool enum only int
nothing-row = refl

pub sense-row : (address : ℕ) (t : Time)
    → pending.write (Some (record { address = address; at = t })) ≡ bytes 1 1 ++ (bytes 2 address ++ bytes 16 (raw t))
unfolding pending mapped option bool enum only int ◌then◌ time
sense-row address t = refl

-- ---- the state

pub state-row : (v : State)
    → state.write v
    ≡ controls.write v.0 ++ latched.write v.1.0 ++ supplies.write v.1.1.0 ++ instants.write v.1.1.1.0
    ++ pending.write v.1.1.1.1.0 ++ row_bytes 1 v.1.1.1.1.1
unfolding state ◌then◌ array int
state-row v = rw (write_all-bytes 1 v.1.1.1.1.1) (simp append_assoc)

pub ruleset rows = (flag-from, controls-row, supplies-row, instants-row)
