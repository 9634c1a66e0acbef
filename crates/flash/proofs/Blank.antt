-- Blank bytes as a list of them; and the state of a page by the report on any of its addresses. Assumes nothing.
use mathlib.Core.Path.{◌≡◌, refl}
use mathlib.Core.Bool.{cond}
use mathlib.Core.List.{List}
use Prim.Native.Nat.{ℕ, zero, suc, ◌+◌, ◌*◌, ◌/◌, ◌≤◌}
use native.Mathlib.Omega.{arith}
use lib.ListN.{length, take, drop}
use lib.Seq.{drop-cons}
use lib.Dec.{eqb}
use Rattle.std.specs.List.{list_all}
use Rattle.time.specs.declared.Time.{Time}
use Rattle.flash.specs.declared.PageState.TheVariants.{Blank, Legible}
use Rattle.flash.specs.Chip.{Chip}
use Rattle.flash.specs.Looking.{all_blank, blank_at, page_state}

-- n bytes from address a on
pub all-blank-list : (n a : ℕ) (image : List ℕ) → a + n ≤ length image → all_blank n a image ≡ list_all (λ b. eqb b 255) (take n (drop a image))
unfolding all_blank
all-blank-list zero a image h = refl
all-blank-list (suc n) a image h = rw (drop-cons image a 0 (omega arith), all-blank-list n (suc a) image (omega arith))

-- A page is blank where the report on any of its addresses says so, and legible where it does not.
pub state-reported : (t : Time) (k : Chip) (a : ℕ) → page_state t k (a / 128) ≡ cond (blank_at t k a) Blank Legible
unfolding page_state blank_at
state-reported t k a = let e : a / 128 * 128 / 128 ≡ a / 128 = omega arith in rw e
