-- `picture::marks::marks` meets its contract. The loop's invariant: the pages passed have their marks. Assumes nothing.
use mathlib.Core.Path.{◌≡◌, ap, ◌∙◌}
use Prim.Native.Nat.{ℕ, ◌*◌}
use native.Mathlib.Omega.{arith}
use lib.ListN.{get_or, length-set}
use Rattle.std.proofs.lemmas.List.Edits.{fill_by_more}
use Rattle.time.specs.declared.Time.{Time}
use Rattle.settle.specs.Pages.{Cells, cell_at}
use Rattle.flash.specs.declared.PageState.TheVariants.{Blank}
use Rattle.flash.specs.Chip.{Chip, settled_at}
use Rattle.flash.specs.Looking.{charge_at}
use Rattle.flash.specs.Views.{chip_of}
use Rattle.picture.specs.Marks.{holds_charge, charged_at, mark_of}
use Rattle.picture.proofs.Marked.{marked}
use Rattle.picture.proofs.marks.marks.Goals as goal

charged-then : (t : Time) (k : Chip) (c : Cells) (p : ℕ) → c ≡ settled_at t k → holds_charge (cell_at c) 1024 (p * 1024) ≡ charged_at t k p
unfolding charged_at charge_at
charged-then t k c p e = ap (λ (c : Cells). holds_charge (cell_at c) 1024 (p * 1024)) e

pub loop-page-preserved : goal.loop-page-preserved
loop-page-preserved c =
    let l = c.loop-page in
    let x = c.args in
    let charged = charged-then x.time (chip_of x.held.now) _ l.page c.at-view.ensures in
    let state = get_or x.states.now l.page Blank in
    let mark = c.mark.ensures ∙ ap (mark_of state) charged in
    (length-set l.marks l.page _ ∙ l.invariant.0, rw mark (fill_by_more _ l.marks l.page 0 (omega arith) l.invariant.1))

pub returns : goal.returns
returns c =
    let l = c.loop-page in
    marked _ _ l.marks (omega arith) (λ k h. l.invariant.1 k (omega arith))
