-- What an exposure leaves, cell by cell and byte by byte, 0 or not: a cell moves and a byte is sensed anew where the exposure reaches,
-- that is, where it is not 0 and covers the page. Assumes nothing.
use mathlib.Core.Path.{◌≡◌, refl, sym, ◌∙◌}
use mathlib.Core.Bool.{Bool, true, false, cond, not, ◌&&◌}
use mathlib.Core.List.{List}
use Prim.Native.Nat.{ℕ, zero, suc, ◌+◌, ◌*◌, ◌/◌, ◌<◌}
use native.Mathlib.Omega.{arith}
use lib.ListN.{length}
use lib.Dec.{eqb, eqb-suc-zero}
use Rattle.cell.specs.declared.Sense.TheVariants.{Normal}
use Rattle.lists.specs.Lists.{at}
use Rattle.cell.specs.Cell.{sensed_byte}
use Rattle.cell.proofs.Sensed.{sensed_byte-same}
use Rattle.registers.specs.declared.Pulse.{Pulse}
use Rattle.settle.specs.Pages.{Cells, cell_at}
use Rattle.settle.specs.Settling.{covers, charged, ruled, normal_byte, expose}
use Rattle.flash.specs.Looking.{exposed_by}
use Rattle.settle.proofs.Slots.{SlotsOf}
use Rattle.settle.proofs.Expose.{resensed-here, resensed-else, expose-cell}

-- whether an exposure of l reaches page x
abbrev pub reaches : Pulse → ℕ → ℕ → Bool
reaches p l x = not (eqb l 0) && covers p x

module _ (p : Pulse) (latch : List ℕ) where
  pub exposed-if : (l i q : ℕ) → exposed_by p latch l i q ≡ cond (reaches p l (i / 1024)) (charged p latch l i q) q
  unfolding exposed_by ruled
  exposed-if zero i q = refl
  exposed-if (suc l) i q = rw (eqb-suc-zero l)

  pub look-cell : (l : ℕ) (c : Cells) → SlotsOf c → (i : ℕ) → i < 393216 → cell_at (expose p latch l c) i ≡ exposed_by p latch l i (cell_at c i)
  unfolding expose exposed_by
  look-cell zero c inv i h = refl
  look-cell (suc l) c inv i h = expose-cell p latch l c inv i h

  pub look-kept : (l : ℕ) (c : Cells) (a : ℕ) → reaches p l (a / 128) ≡ false → at (expose p latch l c).array a ≡ at c.array a
  unfolding expose
  look-kept zero c a e = refl
  look-kept (suc l) c a e = resensed-else p _ c.array a (rw (eqb-suc-zero l) at e)

  look-sensed : (l : ℕ) (c : Cells) (a : ℕ) → a < length c.array → reaches p l (a / 128) ≡ true
      → at (expose p latch l c).array a ≡ normal_byte (λ i. exposed_by p latch l i (cell_at c i)) a
  unfolding expose exposed_by
  look-sensed zero c a h e = absurd (let z : ◌≡◌ {A = ℕ} 0 1 = cc in omega arith)
  look-sensed (suc l) c a h e = resensed-here p _ c.array a h (rw (eqb-suc-zero l) at e)

  -- from charges that its cells have after the exposure
  pub look-byte : (l : ℕ) (c : Cells) (a : ℕ) (charges : ℕ → ℕ) → a < length c.array → reaches p l (a / 128) ≡ true
      → ((k : ℕ) → k < 8 → charges k ≡ exposed_by p latch l (8 * a + k) (cell_at c (8 * a + k)))
      → sensed_byte Normal a charges ≡ at (expose p latch l c).array a
  unfolding normal_byte
  look-byte l c a charges h e each = sensed_byte-same Normal a charges _ each ∙ sym (look-sensed l c a h e)
