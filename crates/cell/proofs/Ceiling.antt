-- In every mode a cell senses 1 below one number, its ceiling, and the tables of 256 classes and ceilings serve every cell, since both repeat.
-- Assumes nothing.
use mathlib.Core.Path.{◌≡◌, refl, ap, ◌∙◌}
use mathlib.Core.Bool.{cond}
use Prim.Native.Nat.{ℕ, ◌%◌, ◌<◌}
use native.Mathlib.Omega.{arith}
use native.Mathlib.Numerals.{add-one}
use lib.Dec.{ltb, leb-suc-suc}
use Rattle.cell.specs.declared.Sense.{Sense}
use Rattle.cell.specs.declared.Sense.TheVariants.{Normal, ProgramVerify, EraseVerify}
use Rattle.lists.specs.Lists.{at, tabulate}
use Rattle.cell.specs.Cell.{class_of, class_table, limit_of, senses, ceiling_of, ceiling_table, sensed_cell}
use Rattle.cell.proofs.Class.{class-lt, class-256}
use Rattle.lists.proofs.Table.{entry}

pub senses-below : (m : Sense) (c q : ℕ) → senses m c q ≡ ltb q (ceiling_of m c)
unfolding senses ceiling_of
senses-below Normal c q = refl
senses-below ProgramVerify c q = refl
senses-below EraseVerify c q = rw (add-one (limit_of EraseVerify c), leb-suc-suc q (limit_of EraseVerify c))

pub class-at : (i : ℕ) → at class_table (i % 256) ≡ class_of i
unfolding class_table
class-at i = entry class_of 256 (i % 256) (omega arith) ∙ class-256 i

pub ceiling-at : (m : Sense) (i : ℕ) → at (ceiling_table m) (i % 256) ≡ ceiling_of m (class_of i)
unfolding ceiling_table
ceiling-at m i = entry (λ i. ceiling_of m (class_of i)) 256 (i % 256) (omega arith) ∙ ap (ceiling_of m) (class-256 i)

-- sensing by the table
pub sensed-below : (m : Sense) (i q : ℕ) → sensed_cell m i q ≡ cond (ltb q (at (ceiling_table m) (i % 256))) 1 0
unfolding sensed_cell
sensed-below m i q = rw (ceiling-at m i, senses-below m (class_of i) q)

-- the ceiling of a cell of the first 256 by the classes' table and the row of its mode
pub ceiling-by-class : (m : Sense) (k : ℕ) → k < 256 → at (tabulate (ceiling_of m) 16) (at class_table k % 16) ≡ ceiling_of m (class_of k)
unfolding class_table
ceiling-by-class m k h =
    let e : at class_table k % 16 ≡ class_of k = ap (λ (c : ℕ). c % 16) (entry class_of 256 k h) ∙ omega (arith, class-lt k) in
    ap (at (tabulate (ceiling_of m) 16)) e ∙ entry (ceiling_of m) 16 (class_of k) (class-lt k)
