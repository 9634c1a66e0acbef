-- What stands at a place of a table. A table of the source is proved by computing its rule's list.
-- Assumes nothing.
use mathlib.Core.Path.{◌≡◌}
use Prim.Native.Nat.{ℕ, ◌<◌}
use lib.ListN.{get_or, replicate, length-replicate}
use Rattle.lists.specs.Lists.{tabulate}
use Rattle.lists.proofs.Maps.{get_or-mapi}

pub entry : (g : ℕ → ℕ) (n k : ℕ) → k < n → get_or (tabulate g n) k 0 ≡ g k
entry g n k h = get_or-mapi (λ k x. g k) (replicate n 0) k (rw length-replicate h)
