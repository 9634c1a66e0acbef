-- What an exposure leaves, cell by cell and byte by byte: a cell moves and a byte is sensed anew where it covers the page.
-- Assumes nothing.
use mathlib.Core.Path.{◌≡◌, refl, sym, ◌∙◌}
use mathlib.Core.Bool.{true, false}
use mathlib.Core.List.{List}
use Prim.Native.Nat.{ℕ, zero, suc, ◌+◌, ◌*◌, ◌/◌, ◌<◌, ◌≤◌}
use native.Mathlib.Omega.{arith}
use lib.Dec.{eqb-suc-zero}
use lib.ListN.{length, take, drop, length-take, length-drop}
use lib.Seq.{get_or-take, get_or-drop, ext_get_or}
use Rattle.std.specs.Prelude.{Option, Some, None, IfSome}
use Rattle.time.specs.Raw.{span}
use Rattle.cell.specs.declared.Sense.TheVariants.{Normal}
use Rattle.lists.specs.Lists.{at}
use Rattle.cell.specs.Cell.{sensed_byte}
use Rattle.registers.specs.declared.Pulse.{Pulse}
use Rattle.settle.specs.declared.cells.CellsRef.{CellsRef}
use Rattle.settle.specs.declared.exposure.Exposure.{Exposure}
use Rattle.settle.specs.Pages.{Cells, cell_at}
use Rattle.settle.specs.Settling.{covers, charged, expose}
use Rattle.settle.specs.Views.{cells_in, after_exposure}
use Rattle.settle.proofs.Slots.{SlotsOf, slots-from}
use Rattle.settle.proofs.Expose.{expose-array-length}
use Rattle.flash.specs.Looking.{exposed_by, all_blank}
use Rattle.flash.proofs.Look.{reaches, exposed-if, look-cell, look-kept, look-byte}

-- one that lasts reaches the pages that it covers
lasting : (p : Pulse) (l x : ℕ) → 0 < l → reaches p l x ≡ covers p x
lasting p zero x h = absurd (omega arith)
lasting p (suc l) x h = rw (eqb-suc-zero l)

-- what an exposure leaves of cells
abbrev pub after : Exposure → CellsRef → Cells
after e cells = expose e.pulse e.latch.now (span e.length) (cells_in cells)

module _ (e : Exposure) (cells : CellsRef) where
  slots : SlotsOf (cells_in cells)
  slots = slots-from _ _ cells.index_long cells.charges_long cells.sound

  reached : (x : ℕ) → reaches e.pulse (span e.length) x ≡ covers e.pulse x
  reached x = lasting e.pulse (span e.length) x e.lasts

  cell-after : (i : ℕ) → i < 393216 → cell_at (after e cells) i ≡ exposed_by e.pulse e.latch.now (span e.length) i (cell_at (cells_in cells) i)
  cell-after i h = look-cell e.pulse e.latch.now (span e.length) (cells_in cells) slots i h

  pub cell-else : (i : ℕ) → i < 393216 → covers e.pulse (i / 1024) ≡ false → cell_at (cells_in cells) i ≡ cell_at (after e cells) i
  cell-else i h n = sym (cell-after i h ∙ exposed-if e.pulse e.latch.now (span e.length) i _ ∙ rw (reached (i / 1024), n))

  pub cell-here : (i : ℕ) → i < 393216 → covers e.pulse (i / 1024) ≡ true
      → charged e.pulse e.latch.now (span e.length) i (cell_at (cells_in cells) i) ≡ cell_at (after e cells) i
  cell-here i h n = sym (cell-after i h ∙ exposed-if e.pulse e.latch.now (span e.length) i _ ∙ rw (reached (i / 1024), n))

  pub byte-else : (a : ℕ) → covers e.pulse (a / 128) ≡ false → at cells.array.now a ≡ at (after e cells).array a
  byte-else a n = sym (look-kept e.pulse e.latch.now (span e.length) (cells_in cells) a (reached (a / 128) ∙ n))

  -- from its cells, charged
  pub byte-here : (a : ℕ) (moved : List ℕ) → a < 49152 → covers e.pulse (a / 128) ≡ true
      → ((k : ℕ) → k < 8 → at moved k ≡ charged e.pulse e.latch.now (span e.length) (8 * a + k) (cell_at (cells_in cells) (8 * a + k)))
      → sensed_byte Normal a (at moved) ≡ at (after e cells).array a
  byte-here a moved h n m =
      look-byte e.pulse e.latch.now (span e.length) (cells_in cells) a (at moved) (rw cells.array_long h) (reached (a / 128) ∙ n)
      (λ k b.
      let page : (8 * a + k) / 1024 ≡ a / 128 = omega arith in
      m k b ∙ sym (exposed-if e.pulse e.latch.now (span e.length) (8 * a + k) _ ∙ rw (page, reached (a / 128), n)))

  pub page-else : (x : ℕ) → covers e.pulse x ≡ false
      → take 128 (drop (x * 128) cells.array.now) ≡ take 128 (drop (x * 128) (after e cells).array)
  page-else x n = ext_get_or 0 _ _ (simp (length-take, length-drop, expose-array-length)) each
    where
      each : (i : ℕ) → i < length (take 128 (drop (x * 128) cells.array.now))
          → at (take 128 (drop (x * 128) cells.array.now)) i ≡ at (take 128 (drop (x * 128) (after e cells).array)) i
      each i h =
          let k : i < 128 = omega (arith, simp length-take at h) in
          let d : (x * 128 + i) / 128 ≡ x = omega arith in
          simp (get_or-take, get_or-drop) (byte-else (x * 128 + i) (rw d n))

  -- a page that stays is blank if it was
  pub blank-else : (x : ℕ) → covers e.pulse x ≡ false → (n a : ℕ) → x * 128 ≤ a → a + n ≤ x * 128 + 128
      → all_blank n a cells.array.now ≡ all_blank n a (after e cells).array
  unfolding all_blank
  blank-else x n zero a h k = refl
  blank-else x n (suc m) a h k =
      let page : a / 128 ≡ x = omega arith in
      rw (byte-else a (rw page n), blank-else x n m (suc a) (omega arith) (omega arith))

  pub after-long : length (after e cells).array ≡ 49152
  after-long = expose-array-length e.pulse e.latch.now (span e.length) (cells_in cells) ∙ cells.array_long

-- ---- where no exposure covers the page

module _ (cells : CellsRef) where
  pub cell-stays : (o : Option Exposure) (i : ℕ) → i < 393216 → IfSome o (λ e. covers e.pulse (i / 1024) ≡ false)
      → cell_at (cells_in cells) i ≡ cell_at (after_exposure o (cells_in cells)) i
  cell-stays None i h n = refl
  cell-stays (Some e) i h n = cell-else e cells i h n

  pub byte-stays : (o : Option Exposure) (a : ℕ) → IfSome o (λ e. covers e.pulse (a / 128) ≡ false)
      → at cells.array.now a ≡ at (after_exposure o (cells_in cells)).array a
  byte-stays None a n = refl
  byte-stays (Some e) a n = byte-else e cells a n

  pub blank-stays : (o : Option Exposure) (x : ℕ) → IfSome o (λ e. covers e.pulse x ≡ false)
      → all_blank 128 (x * 128) cells.array.now ≡ all_blank 128 (x * 128) (after_exposure o (cells_in cells)).array
  blank-stays None x n = refl
  blank-stays (Some e) x n = blank-else e cells x n 128 (x * 128) (omega arith) (omega arith)
