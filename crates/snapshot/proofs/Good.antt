-- Which charge pages a snapshot can hold, given those before them, the last of them first. Assumes nothing.
use mathlib.Core.Path.{◌≡◌}
use mathlib.Core.Bool.{true, false}
use mathlib.Core.List.{List}
use Prim.Native.Nat.{ℕ, ◌≤◌}
use lib.ListN.{length}
use Rattle.lists.specs.Lists.{at}
use Rattle.cell.specs.Cell.{FULL, page_bytes, page_cells}
use Rattle.settle.specs.Pages.{holds}
use Rattle.layout.specs.Layout.{placed}
use Rattle.borsh.proofs.Laws.{Each}
use Rattle.snapshot.specs.Snapshot.{ChargePage, addresses}

pub record GoodPage (before : List ChargePage) (p : ChargePage) : Type 0 where
  pub address : placed p.0 page_bytes ≡ true
  pub fresh : holds p.0 (addresses before) ≡ false
  pub long : length p.1 ≡ page_cells
  pub full : (k : ℕ) → at p.1 k ≤ FULL

abbrev pub GoodPages : List ChargePage → List ChargePage → Type 0
GoodPages = Each GoodPage
