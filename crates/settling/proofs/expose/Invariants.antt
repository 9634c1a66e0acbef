-- `settling::expose` meets its contract. The loop's invariant: index, array, charges and events are those after the pages passed.
-- Assumes nothing.
use Prim.Native.Nat.{◌-◌}
use Rattle.time.specs.Raw.{span}
use Rattle.settle.specs.Views.{cells_at, SameCells}
use Rattle.settle.proofs.Turns.{Turned}
use Rattle.settling.proofs.expose.Given as goal

abbrev pub invariant-loop-page : goal.invariant-loop-page
invariant-loop-page l =
    SameCells l.initial.cells l.cells
    × Turned l.exposure.pulse l.exposure.latch.now (span l.exposure.length) (cells_at l.initial.cells) l.initial.events (l.page - l.exposure.pulse.first) l.cells.index.now l.cells.array.now l.cells.charges.now l.events l.next l.count
