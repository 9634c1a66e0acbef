-- How long a snapshot is: 49,412 bytes, 8,194 more a charge page and 18 more with a pending sense. The sum of its fields' lengths.
-- Assumes nothing.
use mathlib.Core.Path.{◌≡◌, refl}
use mathlib.Core.List.{List, []}
use Prim.Native.Nat.{ℕ, zero, suc, ◌+◌, ◌*◌, ◌≤◌}
use native.Mathlib.Omega.{arith}
use lib.ListN.{length, drop, length-append, length-drop}
use lib.Seq.{length-take-le}
use Rattle.time.specs.declared.Time.{Time}
use Rattle.control.specs.declared.Mode.{Mode}
use Rattle.control.specs.declared.Supply.{Supply}
use Rattle.control.specs.declared.PendingSense.{PendingSense}
use Rattle.std.specs.Prelude.{Option, Some, None}
use Rattle.cell.specs.Cell.{page_bytes, page_cells, pages, array_bytes, array_cells}
use Rattle.settle.specs.Pages.{opened}
use Rattle.flash.specs.declared.Flash.{Flash}
use Rattle.flash.specs.Chip.{Chip}
use Rattle.layout.specs.Layout.{option_byte}
use Rattle.layout.specs.Whole.{Fits}
use Rattle.borsh.specs.Borsh.{int, only, mapped, option, write_all, vec}
use Rattle.borsh.proofs.Lengths.{length-int, length-enum, length-bool, length-then, length-array}
use Rattle.snapshot.specs.Snapshot.{ChargePage, charge, charge_page, time, pending, supply, mode, Controls, controls, Latched, latched, Supplies, supplies, Instants, instants, state, snapshot, slot_pages, state_fields, contents_of, snapshot_of, snapshot_length}

-- ---- the state

length-time : (t : Time) → length (time.write t) ≡ 16
unfolding time mapped
length-time t = length-int 16 _

length-pending : (p : Option PendingSense) → length (pending.write p) ≡ 1 + 18 * option_byte p
unfolding pending mapped option
length-pending None = length-bool _
length-pending (Some p) = simp (length-append, length-bool, length-then, length-int, length-time)

length-supply : (v : Supply) → length (supply.write v) ≡ 1
unfolding supply
length-supply = length-enum 3 _ _

length-mode : (v : Mode) → length (mode.write v) ≡ 1
unfolding mode
length-mode = length-enum 6 _ _

length-controls : (v : Controls) → length (controls.write v) ≡ 5
unfolding controls
length-controls v = simp (length-then, length-int, length-bool)

length-latched : (v : Latched) → length (latched.write v) ≡ length v.0 * 1 + 2
unfolding latched
length-latched v = simp (length-then, length-int, length-array page_bytes (int 1) 1 (length-int 1))

length-supplies : (v : Supplies) → length (supplies.write v) ≡ 4
unfolding supplies
length-supplies v = simp (length-then, length-supply, length-mode, length-bool)

length-instants : (v : Instants) → length (instants.write v) ≡ 112
unfolding instants
length-instants v = simp (length-then, length-time)

pub length-state : (s : Flash) → Fits s → length (state.write (state_fields s)) ≡ 256 + 18 * option_byte s.registers.verify_pending
unfolding state state_fields
length-state s f =
    let sensed = length-array 4 (int 1) 1 (length-int 1) in
    simp (length-then, length-controls, length-latched, length-supplies, length-instants, length-pending, sensed)
    (omega (arith, f.registers.latch.long, f.sensed.long))

-- ---- the charge pages

length-charge : (q : ℕ) → length (charge.write q) ≡ 8
unfolding charge only
length-charge = length-int 8

length-page : (p : ChargePage) → length ((charge_page []).write p) ≡ 2 + length p.1 * 8
unfolding charge_page only
length-page p = simp (length-then, length-int, length-array page_cells charge 8 length-charge)

length-pages : (n s : ℕ) (index charges : List ℕ) → (s + n) * page_cells ≤ length charges
    → length (write_all (charge_page []).write (slot_pages n s index charges)) ≡ 8194 * n
unfolding write_all slot_pages
length-pages zero s index charges h = refl
length-pages (suc n) s index charges h =
    let behind = drop (s * page_cells) charges in
    let cells = length-take-le page_cells behind (omega (arith, length-drop (s * page_cells) charges)) in
    simp (length-append, length-page, cells, length-pages n (suc s) index charges (omega arith)) (omega arith)

-- ---- the whole of it

pub length-snapshot : (k : Chip) → length k.array ≡ array_bytes → length k.charges ≡ array_cells → opened k.flash.indices ≤ pages
    → Fits k.flash → length (snapshot_of k) ≡ snapshot_length (opened k.flash.indices) k.flash.registers.verify_pending
unfolding snapshot_of contents_of snapshot vec
length-snapshot k a c few f =
    let n = opened k.flash.indices in
    let cells = length-pages n 0 k.flash.indices k.charges (omega arith) in
    let array = length-array array_bytes (int 1) 1 (length-int 1) in
    simp (length-then, length-append, length-int, array, length-state k.flash f, cells) (omega arith)
