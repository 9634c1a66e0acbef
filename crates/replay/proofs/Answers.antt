-- What `replay` answers, by where it returns: with nothing to do; where the first call is refused by what memory is; and after the run.
-- Assumes nothing.
use mathlib.Core.Path.{◌≡◌, refl, sym, ap, ◌∙◌}
use mathlib.Core.Bool.{Bool, true, false, cond}
use mathlib.Core.List.{List}
use Prim.Native.Nat.{ℕ, ◌-◌, ◌*◌, ◌/◌, ◌≤◌}
use native.Mathlib.Omega.{arith}
use borrow.Author.Tests.{ltb-true, ltb-false}
use Rattle.std.specs.Prelude.{min}
use lib.Dec.{ltb}
use Rattle.refusal.specs.Refusal.{told}
use Rattle.flash.specs.declared.Flash.{Flash}
use Rattle.flash.specs.Chip.{chip}
use Rattle.layout.specs.Layout.{encoded}
use Rattle.lent.specs.Memory.{Memory, memory_of, lent as made}
use Rattle.lent.specs.Asked.{value_of, count_of}
use Rattle.lent.specs.Held.{Opened}
use Rattle.listing.specs.declared.Replayed.{Replayed}
use Rattle.listing.specs.Replaying.{end_in, idle, asks_after, Replays}
use Rattle.listing.specs.Held.{came, ended}
use Rattle.listing.proofs.Going.{ended-end, replays}

-- the end of the list as the code has it
pub end_is : (to words : ℕ) → end_in to words ≡ min to (words / 3)
end_is to words = by (ltb to (words / 3)) refl
  where
    by : (b : Bool) → ltb to (words / 3) ≡ b → cond b to (words / 3) ≡ min to (words / 3)
    by true h = omega (arith, ltb-true to (words / 3) h)
    by false h = omega (arith, ltb-false to (words / 3) h)

-- which lies inside the list
pub end-inside : (to words : ℕ) → 3 * end_in to words ≤ words
end-inside to words = rw (end_is to words) (omega arith)

module _ (end from : ℕ) (calls lent : List ℕ) (m : Memory) where
  pub nothing-done : end ≤ from → Replays from (asks_after (idle lent m) (end - from) from calls) lent m from 0 0 0 m lent
  nothing-done h = replays end from calls lent m (ended-end end from calls (idle lent m) h)

  pub run-done : (flash after : Flash) → Opened m flash → (r : Replayed) {bytes array charges events : List ℕ}
      → ended end from calls (idle lent (memory_of (chip flash m.array m.charges))) ≡ came r (chip after array charges) events → bytes ≡ encoded after
      → Replays from (asks_after (idle lent m) (end - from) from calls) lent m r.done (told r.last) (value_of r.last) (count_of r.last) (made bytes array charges) events
  run-done flash after o r e b =
      let start : m ≡ memory_of (chip flash m.array m.charges) = o.memory_is ∙ ap memory_of (sym o.chip_is) in
      replays end from calls lent m (ap (λ (x : Memory). ended end from calls (idle lent x)) start ∙ rw b e)
