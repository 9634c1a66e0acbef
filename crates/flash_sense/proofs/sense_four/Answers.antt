-- `flash_sense::sense_four` meets its contract: each of the four is the byte that its cells sense. Assumes nothing.
use mathlib.Core.Path.{◌≡◌, sym, ◌∙◌}
use Prim.Native.Nat.{ℕ, ◌+◌, ◌*◌, ◌<◌}
use mathlib.Core.List.{List}
use native.Mathlib.Omega.{arith}
use lib.ListN.{length}
use lib.Seq.{ext_get_or}
use Rattle.cell.specs.declared.Sense.{Sense}
use Rattle.lists.specs.Lists.{at, tabulate}
use Rattle.cell.specs.Cell.{sensed_byte}
use Rattle.lists.proofs.Table.{entry}
use Rattle.cell.proofs.Sensed.{sensed_byte-same}
use Rattle.settle.specs.Pages.{Cells, cell_at}
use Rattle.settle.specs.Settling.{four_sensed}
use Rattle.flash_sense.proofs.sense_four.Goals as goal

-- the eight cells as a table are the cells
tabled : (m : Sense) (a : ℕ) (c : Cells) → sensed_byte m a (at (tabulate (λ j. cell_at c (8 * a + j)) 8)) ≡ sensed_byte m a (λ j. cell_at c (8 * a + j))
tabled m a c = sensed_byte-same m a _ _ (entry (λ j. cell_at c (8 * a + j)) 8)

four : (m : Sense) (a : ℕ) (c : Cells) (bytes : List ℕ) → length bytes ≡ 4
    → ((k : ℕ) → k < 4 → at bytes k ≡ sensed_byte m (a + k) (at (tabulate (λ j. cell_at c (8 * (a + k) + j)) 8))) → bytes ≡ four_sensed m a c
unfolding four_sensed
four m a c bytes l e =
    ext_get_or 0 bytes (four_sensed m a c) l
    (λ k h. let i : k < 4 = rw l at h in e k i ∙ tabled m (a + k) c ∙ sym (entry (λ k. sensed_byte m (a + k) (λ j. cell_at c (8 * (a + k) + j))) 4 k i))

pub returns : goal.returns
returns c = four c.args.m c.args.address _ c.from_fn.result (search arith) (search arith)
