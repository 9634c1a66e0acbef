-- `save::put_pages` meets its contract. The loop's invariant: the pages of the slots passed stand after what was there.
-- Assumes nothing.
use mathlib.Core.Path.{refl, ap, ◌∙◌}
use mathlib.Core.List.{[]}
use lib.ListN.{take, get_or}
use Rattle.settle.proofs.Slots.{opened-le}
use Rattle.snapshot.specs.Places.{pages_place}
use Rattle.save.proofs.Filled.{page_inside, chunk-stretch, pages-none, pages-more, pages-all}
use native.Mathlib.Omega.{arith}
use Rattle.save.proofs.put_pages.Goals as goal

pub loop-slot-init : goal.loop-slot-init
loop-slot-init c = let x = c.args in (omega (arith, opened-le x.held.now.flash.indices), refl, pages-none x.held.now.flash.indices x.held.now.charges.now x.out.now)

pub put-requires : goal.put-requires
put-requires c = omega (arith, page_inside c.loop-slot.slot c.args.count (omega arith))

pub overflow_add-page_at : goal.overflow_add-page_at
overflow_add-page_at c = let s = c.loop-slot in omega (arith, page_inside s.slot c.args.count (omega arith))

pub put_row-requires : goal.put_row-requires
put_row-requires c = omega (arith, page_inside c.loop-slot.slot c.args.count (omega arith))

pub loop-slot-preserved : goal.loop-slot-preserved
loop-slot-preserved c = let l = c.loop-slot in
    let x = c.args in
    (omega arith, omega arith, pages-more x.held.now.flash.indices x.held.now.charges.now l.slot c.page_at.result c.page_at-in-loop-slot.result _ l.out c.put.new.to c.put_row.new.to (take pages_place x.out.now) c.page_at.ensures c.page_at-in-loop-slot.ensures (c.owners-owners.ensures l.slot (omega arith)) (omega arith) c.put.ensures _ (ap (λ cs. get_or cs l.slot []) c.as_chunks.ensures.front ∙ chunk-stretch 1024 _ l.slot x.held.now.charges.now (omega arith)) c.put_row.ensures l.invariant.2)

pub returns : goal.returns
returns c = let l = c.loop-slot in
    let x = c.args in
    pages-all x.held.now.flash.indices x.held.now.charges.now l.slot x.count l.out (take pages_place x.out.now) (omega arith) l.invariant.2
