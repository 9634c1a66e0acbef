-- `picture::cells::holds_charge` meets its contract: a page holds a charge if what one of its places has is above 0.
-- Assumes nothing.
use mathlib.Core.Path.{◌≡◌, sym, ◌∙◌}
use Prim.Native.Nat.{◌+◌, ◌*◌}
use native.Mathlib.Omega.{arith}
use borrow.Author.Rules.{rules}
use borrow.Author.Tests.{tests}
use lib.Dec.{ltb}
use Rattle.std.specs.List.{list_any, range_with_len}
use Rattle.std.proofs.lemmas.Iterator.{YieldsList-from_range}
use Rattle.std.proofs.lemmas.Iterator.Search.{any_from_yields_List}
use Rattle.settle.specs.Pages.{cell_at}
use Rattle.look.specs.Views.{cells_after}
use Rattle.picture.proofs.Held.{holds-any}
use Rattle.picture.proofs.cells.holds_charge.Goals as goal

pub returns : goal.returns
returns c =
    let x = c.args in
    let start = x.page * 1024 in
    let q = cell_at (cells_after x.view.now) in
    let e : c.any.result ≡ list_any (λ i. ltb 0 (q (start + i))) (range_with_len 0 1024) =
    any_from_yields_List (λ i. ltb 0 (q (start + i))) _ _ c.any.result c.any.ensures.ran (YieldsList-from_range 0 1024 1024 (cc) (omega arith)) (λ i b p k. (search rules, search (rules, tests))) in
    e ∙ sym (holds-any q start 1024)
