-- `scan::check_pages` meets its contract. The loops' invariants: nothing was refused, and what all pages answer is what those
-- from the slot on answer; what all charges of the page answer is what those after so many quarters answer. Assumes nothing.
use Rattle.std.proofs.Common.{◌≡◌}
use Rattle.refusal.specs.Refusal.{told}
use Rattle.scan.proofs.Charges.{Cells}
use Rattle.scan.proofs.Turns.{Pages}
use Rattle.scan.proofs.check_pages.Given as goal

abbrev pub invariant-loop-quarter : goal.invariant-loop-quarter
invariant-loop-quarter l = (told l.outcome ≡ 0) × Cells l.bytes l.initial.at l.at l.quarter

abbrev pub invariant-pages : goal.invariant-pages
invariant-pages l = (told l.outcome ≡ 0) × Pages l.count l.initial.indices l.bytes l.indices l.at l.slot
