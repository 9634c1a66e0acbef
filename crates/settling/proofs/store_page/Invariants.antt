-- `settling::store_page` meets its contract. The loop's invariant: the bytes passed are stored, with an event for each change.
-- Assumes nothing.
use Prim.Native.Nat.{◌+◌, ◌-◌, ◌≤◌}
use Rattle.lists.specs.Lists.{at}
use Rattle.settle.proofs.Stored.{Stored}
use Rattle.settling.proofs.store_page.Given as goal

abbrev pub invariant-loop-i : goal.invariant-loop-i
invariant-loop-i l =
    (l.n ≤ l.count + l.i)
    × Stored l.initial.array l.initial.events l.count l.address (λ a. at l.bytes (a - l.address)) (l.address + l.i) l.array l.events l.n
