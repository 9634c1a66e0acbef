-- `scan::check_pages` meets its contract. The loops' invariants: nothing was refused, and what all pages answer is what those
-- from the slot on answer; what all charges of the page answer is what those after so many quarters answer. Assumes nothing.
use Rattle.std.proofs.Common.{sym, refl, ◌∙◌, arith}
use native.Mathlib.Nat.{sub-zero}
use Rattle.scan.proofs.Charges.{cells-through, quarter-good, quarter-bad}
use Rattle.scan.proofs.Turns.{address-fits, pages-through, address-bad, cells-bad, page-good, refused, on_ok}
use Rattle.scan.proofs.check_pages.Goals as goal

pub pages-init : goal.pages-init
pages-init c = (refl, record { there = refl; long = refl; rest = rw sub-zero; index_rest = rw sub-zero })

pub enter_page-requires : goal.enter_page-requires
enter_page-requires c =
    let a = address-fits _ _ _ (sym c.in_default.ensures) in (omega arith, a.0, a.1)

pub loop-quarter-init : goal.loop-quarter-init
loop-quarter-init c =
    let a = address-fits _ _ _ (sym c.in_default.ensures) in
    (c.pages.invariant.0, record { there = omega arith; fits = a.0; rest = refl })

pub check_cells-requires : goal.check_cells-requires
check_cells-requires c = c.loop-quarter.invariant.1.fits

pub loop-quarter-preserved : goal.loop-quarter-preserved
loop-quarter-preserved c =
    let l = c.loop-quarter.invariant in
    (l.0, quarter-good l.1 c.loop-quarter-test.true (sym c.in_default-check_cells.ensures))

pub pages-preserved : goal.pages-preserved
pages-preserved c =
    let l = c.loop-quarter.invariant in (
      l.0,
      page-good c.pages.invariant.1 c.pages-test.true (sym c.in_default.ensures) (cells-through l.1 c.loop-quarter-test.false)
          c.enter_page.ensures (omega arith) (omega arith),
    )

pub returns-after-pages : goal.returns-after-pages
returns-after-pages c =
    let t = pages-through c.pages.invariant.1 c.pages-test.false in (c.pages.invariant.0 ∙ t.0, on_ok _ t.1)

pub returns-in-Err : goal.returns-in-Err
returns-in-Err c = (address-bad c.pages.invariant.1 c.pages-test.true c.in-Err.ensures (refused _), tt)

pub returns-in-Err-check_cells : goal.returns-in-Err-check_cells
returns-in-Err-check_cells c =
    let bad = quarter-bad c.loop-quarter.invariant.1 c.loop-quarter-test.true c.in-Err-check_cells.ensures (refused _) in
    (cells-bad c.pages.invariant.1 c.pages-test.true (sym c.in_default.ensures) bad (refused _), tt)
