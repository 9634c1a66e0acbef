-- `sensing::limits::Ceilings::of` meets its contract. The loop's invariant: each place passed holds the ceiling of the class there, which is the cell's.
-- Assumes nothing.
use mathlib.Core.Path.{◌≡◌, ◌∙◌}
use native.Mathlib.Omega.{arith}
use lib.ListN.{replicate}
use Rattle.cell.specs.Cell.{class_of, ceiling_of, ceiling_table}
use Rattle.cell.proofs.Ceiling.{ceiling-by-class}
use Rattle.lists.proofs.Maps.{mapi-same}
use Rattle.lists.proofs.Partly.{partly-turn, partly-all}
use Rattle.sensing.proofs.limits.Ceilings.of.Invariants.{by-class-there}
use Rattle.sensing.proofs.limits.Ceilings.of.Goals as goal

pub loop-i-preserved : goal.loop-i-preserved
loop-i-preserved c = let l = c.loop-i in partly-turn (by-class-there c.classes-table.result c.row-by_class.result) l.i (replicate 256 0) l.limits _ l.invariant (rw c.from.ensures)

pub invariant_of-result : goal.invariant_of-result
unfolding ceiling_table
invariant_of-result c =
    let l = c.loop-i in
    let e : l.i ≡ 256 = omega arith in
    let rule = by-class-there c.classes-table.result c.row-by_class.result in
    let table =
    l.invariant
    ∙ partly-all rule (replicate 256 0) _ e
    ∙ mapi-same rule (λ k x. ceiling_of c.args.sense (class_of k)) (replicate 256 0) (λ k h. rw (c.classes-table.ensures, c.row-by_class.ensures) (ceiling-by-class c.args.sense k h)) in
    record { is = table }
