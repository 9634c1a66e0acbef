-- `picture::shades::write_exposed` meets its contract. The loop's invariant: as many shades are written as cells were passed.
-- Assumes nothing.
use mathlib.Core.Path.{◌≡◌}
use Rattle.picture.specs.Shades.{shade_of}
use Rattle.picture.specs.Outputs.{written}
use Rattle.settle.specs.Pages.{cell_at}
use Rattle.look.specs.Views.{cells_after}
use Rattle.picture.proofs.shades.write_exposed.Given as goal

abbrev pub invariant-loop-i : goal.invariant-loop-i
invariant-loop-i l = l.out ≡ written (λ k. shade_of (cell_at (cells_after l.view) k)) l.i l.initial.out
