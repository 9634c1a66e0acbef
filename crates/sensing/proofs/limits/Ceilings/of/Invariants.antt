-- `sensing::limits::Ceilings::of` meets its contract. The loop's invariant: each place passed holds the ceiling of the class there, which is the cell's.
-- Assumes nothing.
use Prim.Native.Nat.{ℕ, ◌%◌}
use mathlib.Core.Path.{◌≡◌}
use mathlib.Core.List.{List}
use Rattle.lists.specs.Lists.{at}
use Rattle.lists.proofs.Partly.{partly}
use Rattle.sensing.proofs.limits.Ceilings.of.Given as goal

abbrev pub by-class-there : List ℕ → List ℕ → ℕ → ℕ → ℕ
by-class-there table row k x = at row (at table k % 16)

abbrev pub invariant-loop-i : goal.invariant-loop-i
invariant-loop-i l = l.limits ≡ partly (by-class-there l.class-items l.by_class) l.i l.initial.limits
