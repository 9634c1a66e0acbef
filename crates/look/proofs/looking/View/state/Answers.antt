-- `look::looking::View::state` meets its contract: at a time whose settle leaves these cells, a page is blank as it is in them.
-- Assumes nothing.
use mathlib.Core.Path.{◌≡◌, ap, sym}
use Prim.Native.Nat.{ℕ, ◌*◌, ◌/◌}
use native.Mathlib.Omega.{arith}
use Rattle.time.specs.declared.Time.{Time}
use Rattle.settle.specs.Pages.{Cells}
use Rattle.flash.specs.Chip.{Chip, settled_at}
use Rattle.flash.specs.Looking.{all_blank, blank_at, image_at, page_state}
use Rattle.look.proofs.looking.View.state.Goals as goal

blank-then : (t : Time) (k : Chip) (c : Cells) (p : ℕ) → settled_at t k ≡ c → all_blank 128 (p * 128) c.array ≡ blank_at t k (p * 128)
unfolding blank_at image_at
blank-then t k c p e =
    let page : p * 128 / 128 * 128 ≡ p * 128 = omega arith in
    rw page (ap (λ (c : Cells). all_blank 128 (p * 128) c.array) (sym e))

pub returns-then-blank : goal.returns-then-blank
unfolding page_state
returns-then-blank c = λ t k e. rw (← blank-then t k _ c.args.page e, ← c.blank.ensures, c.if-blank.true)

pub returns-else-blank : goal.returns-else-blank
unfolding page_state
returns-else-blank c = λ t k e. rw (← blank-then t k _ c.args.page e, ← c.blank.ensures, c.if-blank.false)
