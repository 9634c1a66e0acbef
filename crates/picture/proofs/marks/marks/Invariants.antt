-- `picture::marks::marks` meets its contract. The loop's invariant: the pages passed have their marks. Assumes nothing.
use mathlib.Core.Path.{◌≡◌}
use Prim.Native.Nat.{ℕ, ◌<◌}
use lib.ListN.{length, get_or}
use Rattle.flash.specs.declared.PageState.TheVariants.{Blank}
use Rattle.flash.specs.Views.{chip_of}
use Rattle.picture.specs.Marks.{charged_at, mark_of}
use Rattle.picture.proofs.marks.marks.Given as goal

abbrev pub invariant-loop-page : goal.invariant-loop-page
invariant-loop-page l =
    (length l.marks ≡ 384) × ((k : ℕ) → k < l.page → get_or l.marks k 0 ≡ mark_of (get_or l.states k Blank) (charged_at l.fn.time (chip_of l.held) k))
