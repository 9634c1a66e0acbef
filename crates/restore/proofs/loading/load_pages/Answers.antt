-- `restore::loading::load_pages` meets its contract. The loop's invariant: the charges of the pages passed are stored from the first slot on.
-- Assumes nothing.
use Prim.Native.Nat.{◌+◌, ◌*◌}
use mathlib.Core.Path.{◌≡◌, refl, ap, sym, ◌∙◌}
use lib.ListN.{length}
use lib.Seq.{length-sets}
use borrow.Rule.Slice.PartMut.{mid_len}
use Rattle.snapshot.specs.Places.{pages_cells, page_at}
use Rattle.restore.proofs.Loaded.{load-turn}
use native.Mathlib.Omega.{arith}
use Rattle.restore.proofs.loading.load_pages.Goals as goal

pub loop-slot-init : goal.loop-slot-init
unfolding pages_cells
loop-slot-init c = (c.requires.2, refl)

pub overflow_add-page_at : goal.overflow_add-page_at
unfolding page_at
overflow_add-page_at c = omega (arith, c.page_at.ensures)

pub get_row-requires : goal.get_row-requires
unfolding page_at
get_row-requires c =
    let l = c.loop-slot in
    let a = l.slot * 1024 in
    omega (arith, mid_len a (a + 1024) l.charges (omega arith), c.page_at.ensures, c.requires.1)

pub loop-slot-preserved : goal.loop-slot-preserved
loop-slot-preserved c =
    let l = c.loop-slot in
    let x = c.args in
    let e =
    load-turn l.slot x.bytes.now x.charges.now l.charges _ _ l.invariant.1 (omega arith)
    c.page_at.ensures c.get_row.ensures in
    (ap length e ∙ simp length-sets c.requires.2, e)

pub shape_of-charges : goal.shape_of-charges
shape_of-charges c = c.loop-slot.invariant.0 ∙ sym c.requires.2

pub returns : goal.returns
returns c =
    let l = c.loop-slot in
    let e : l.slot ≡ c.args.count = omega arith in
    l.invariant.1 ∙ rw e
