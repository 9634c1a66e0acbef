-- `cell::classes::classes` meets its contract: the table is the class rule written out, by computing the rule.
-- Assumes nothing.
use mathlib.Core.Path.{refl}
use Rattle.cell.specs.Cell.{class_of, class_table}
use Rattle.cell.proofs.classes.classes.Goals as goal

pub returns : goal.returns
unfolding class_of class_table
returns c = refl
