-- `look::states::page_states` meets its contract. The loop's invariant: the pages passed have their states. Assumes nothing.
use mathlib.Core.Path.{◌≡◌}
use Prim.Native.Nat.{ℕ, ◌<◌}
use lib.ListN.{length, get_or}
use Rattle.flash.specs.declared.PageState.TheVariants.{Blank}
use Rattle.flash.specs.Looking.{page_state}
use Rattle.flash.specs.Views.{chip_of}
use Rattle.look.proofs.states.page_states.Given as goal

abbrev pub invariant-loop-page : goal.invariant-loop-page
invariant-loop-page l =
    (length l.states ≡ 384) × ((k : ℕ) → k < l.page → get_or l.states k Blank ≡ page_state l.fn.time (chip_of l.held) k)
