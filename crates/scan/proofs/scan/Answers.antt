-- `scan::scan` meets its contract: the fields passed so far rewrite the definition to the next one. Assumes nothing.
use Rattle.std.proofs.Common.{◌≤◌, sym, ◌∙◌, refl, arith}
use Rattle.refusal.proofs.Outcomes.{passed-on}
use Rattle.cell.specs.Cell.{pages}
use Rattle.flash.specs.Chip.{no_pages}
use Rattle.scan.proofs.Turns.{first_stops, first_passes, counted, place-small, refused, end-passed, no-count}
use Rattle.scan.proofs.scan.Goals as goal

pub returns-in_err-check_end-clause-told : goal.returns-in_err-check_end-clause-told
returns-in_err-check_end-clause-told c =
    rw (passed-on _ c.from_residual.ensures.1) (no-count _ _ c.in_err-check_end.ensures (refused _))

pub returns-in_err-check_pages-clause-told : goal.returns-in_err-check_pages-clause-told
unfolding no_pages
returns-in_err-check_pages-clause-told c =
    let few : c.count_in-count.result ≤ pages = omega arith in
    let n = counted _ _ _ (end-passed _ _ c.in_ok-check_end.ensures) c.count_in-count.ensures few refl in
    rw (passed-on _ c.from_residual-in_err-check_pages.ensures.1) (first_stops _ c.in_err-check_pages.ensures.0 (refused _) ∙ sym n)

pub check_state-requires : goal.check_state-requires
check_state-requires c =
    let few : c.count_in-count.result ≤ pages = omega arith in
    rw c.page_at.ensures (place-small _ few)

pub returns-in_err-check_state-clause-told : goal.returns-in_err-check_state-clause-told
unfolding no_pages
returns-in_err-check_state-clause-told c =
    let few : c.count_in-count.result ≤ pages = omega arith in
    let n = counted _ _ _ (end-passed _ _ c.in_ok-check_end.ensures) c.count_in-count.ensures few refl in
    rw (passed-on _ c.from_residual-in_err-check_state.ensures.1) (c.in_err-check_state.ensures ∙ rw c.page_at.ensures (sym (n ∙ first_passes _ c.in_ok-check_pages.ensures.0 refl)))

pub invariant_of-result : goal.invariant_of-result
unfolding no_pages
invariant_of-result c =
    let few : c.count_in-count.result ≤ pages = omega arith in
    let k = c.count_in-count.ensures in
    let e = c.in_ok-check_pages.ensures in
    let n = counted _ _ _ (end-passed _ _ c.in_ok-check_end.ensures) k few refl in
    record {
      good = n ∙ first_passes _ e.0 refl ∙ rw (← c.page_at.ensures) (sym c.in_ok-check_state.ensures);
      indexed = rw (← k) e.1;
    }
