-- `look::imaging::write_pages` meets its contract. The loop's invariant: the image's first pages are stored, as many as were passed. A page
-- that the exposure does not cover is the stored one. Assumes nothing.
use mathlib.Core.Path.{◌≡◌, ap, sym, ◌∙◌}
use Prim.Native.Nat.{◌+◌, ◌-◌, ◌*◌}
use native.Mathlib.Omega.{arith}
use lib.ListN.{take, drop}
use lib.Seq.{sets}
use Rattle.look.proofs.After.{after, after-long, page-else}
use Rattle.lists.proofs.Stores.{sets_more, sets-all}
use Rattle.look.proofs.imaging.write_pages.Goals as goal
use Rattle.look.proofs.imaging.write_pages.Goals.{then-covers, else-covers}

pub loop-page-preserved : goal.loop-page-preserved
loop-page-preserved c =
    let l = c.loop-page in
    let x = c.args in
    let n = l.page * 128 in
    let long = after-long x.exposure.now x.cells.now in
    let next : (l.page + 1) * 128 ≡ n + 128 = omega arith in
    let page : n + 128 - n ≡ 128 = omega arith in
    let written : c.if-covers.out ≡ sets l.out n (take 128 (drop n (after x.exposure.now x.cells.now).array)) =
    elim c.if-covers.branch [
      | then-covers w ↦ w.out-is ∙ w.write_sensed.ensures
      | else-covers w ↦
          w.out-is ∙ w.write_stored.ensures ∙ rw page (ap (sets l.out n) (page-else x.exposure.now x.cells.now l.page (sym c.covers.ensures ∙ w.if-covers.false)))
    ] in
    rw next (sets_more _ _ _ _ n 128 l.invariant written (omega arith))

pub returns : goal.returns
returns c =
    let l = c.loop-page in
    let long = after-long c.args.exposure.now c.args.cells.now in
    sets-all _ _ _ (l.page * 128) l.invariant (omega arith)
