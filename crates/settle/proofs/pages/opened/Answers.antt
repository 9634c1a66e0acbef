-- `settle::pages::opened` meets its contract. The loop's invariant: the count, and the opened pages of the entries that are left, are together
-- those of the index.
-- Assumes nothing.
use mathlib.Core.Path.{◌≡◌, refl, ap}
use mathlib.Core.Logic.{◌≢◌}
use mathlib.Core.List.{List, ◌∷◌}
use Prim.Native.Nat.{ℕ, zero, suc, ◌+◌, ◌<◌}
use native.Mathlib.Numerals.{add-one}
use native.Mathlib.Omega.{arith}
use lib.ListN.{length, drop}
use lib.Seq.{drop-cons, drop-length}
use Rattle.lists.specs.Lists.{at}
use Rattle.settle.specs.Pages.{opened}
use Rattle.settle.proofs.pages.opened.Goals as goal
use Rattle.settle.proofs.pages.opened.Goals.{then-entry-ne0, else-entry-ne0}

opened-zero : (x : ℕ) (xs : List ℕ) → x ≡ 0 → opened (x ∷ xs) ≡ opened xs
unfolding opened
opened-zero x xs e = rw e

opened-suc : (x : ℕ) (xs : List ℕ) → x ≢ 0 → opened (x ∷ xs) ≡ opened xs + 1
unfolding opened
opened-suc zero xs n = absurd (n refl)
opened-suc (suc x) xs n = omega arith

-- the entries from i on begin with the entry i
from : (l : List ℕ) (i : ℕ) → i < length l → drop i l ≡ at l i ∷ drop (i + 1) l
from l i h = rw (add-one, drop-cons l i 0)

none_left : (l : List ℕ) (i : ℕ) → i ≡ length l → opened (drop i l) ≡ 0
unfolding opened
none_left l i e = rw (e, drop-length)

pub loop-entry-preserved : goal.loop-entry-preserved
loop-entry-preserved c =
    let l = c.args.indices.now in
    let i = c.loop-entry.entry-index in
    let e = ap opened (from l i (omega arith)) in
    elim c.if-entry-ne0.branch [
      | then-entry-ne0 w ↦ (omega arith, omega (arith, e, opened-suc (at l i) (drop (i + 1) l) (omega arith)))
      | else-entry-ne0 w ↦ (omega arith, omega (arith, e, opened-zero (at l i) (drop (i + 1) l) (omega arith)))
    ]

pub returns : goal.returns
returns c =
    let l = c.args.indices.now in
    let e = none_left l c.loop-entry.entry-index (omega arith) in
    (omega arith, omega arith)
