-- `look::imaging::sensed_blank` meets its contract: a page is blank if what each address of it senses is FF. Assumes nothing.
use mathlib.Core.Path.{◌≡◌, sym}
use Prim.Native.Nat.{◌+◌, ◌*◌}
use lib.Dec.{eqb}
use native.Mathlib.Omega.{arith}
use borrow.Author.Rules.{rules}
use borrow.Author.Tests.{tests}
use Rattle.lists.specs.Lists.{at}
use Rattle.std.specs.List.{list_all, range_with_len}
use Rattle.std.proofs.lemmas.Iterator.{YieldsList-from_range}
use Rattle.std.proofs.lemmas.Iterator.Search.{all_from_yields_List}
use Rattle.look.proofs.After.{after}
use Rattle.look.proofs.Stores.{all-blank-range}
use Rattle.look.proofs.imaging.sensed_blank.Goals as goal

pub returns : goal.returns
returns c =
    let x = c.args in
    let start = x.page * 128 in
    let image = (after x.exposure.now x.cells.now).array in
    let e : c.all.result ≡ list_all (λ a. eqb (at image a) 255) (range_with_len start 128) =
    all_from_yields_List (λ a. eqb (at image a) 255) _ _ c.all.result c.all.ensures.ran (YieldsList-from_range start (start + 128) 128 (cc) (omega arith)) (λ x b q k. search (rules, tests)) in
    rw e (sym (all-blank-range 128 start image))
