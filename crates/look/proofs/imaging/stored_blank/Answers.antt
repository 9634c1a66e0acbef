-- `look::imaging::stored_blank` meets its contract: a page is blank if all bytes of it read FF. Assumes nothing.
use mathlib.Core.Path.{◌≡◌, sym}
use Prim.Native.Nat.{◌+◌, ◌-◌}
use lib.Dec.{eqb}
use lib.ListN.{take, drop}
use native.Mathlib.Omega.{arith}
use borrow.Author.Rules.{rules}
use borrow.Author.Tests.{tests}
use Rattle.std.specs.List.{list_all}
use Rattle.std.proofs.lemmas.Iterator.{YieldsList-from_slice}
use Rattle.std.proofs.lemmas.Iterator.Search.{all_from_yields_List}
use Rattle.flash.proofs.Blank.{all-blank-list}
use Rattle.look.proofs.imaging.stored_blank.Goals as goal

pub returns : goal.returns
returns c =
    let x = c.args in
    let n : x.start + 128 - x.start ≡ 128 = omega arith in
    let page = take (x.start + 128 - x.start) (drop x.start x.array.now) in
    let e : c.all.result ≡ list_all (λ b. eqb b 255) page =
    all_from_yields_List (λ b. eqb b 255) _ _ c.all.result c.all.ensures.ran (YieldsList-from_slice page cc) (λ x b q k. search (rules, tests)) in
    rw e (rw n (sym (all-blank-list 128 x.start x.array.now (omega arith))))
