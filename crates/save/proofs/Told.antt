-- What writing a snapshot tells, from its checks: the first line that is given makes the number; and what the output is where none is. Assumes nothing.
use mathlib.Core.Path.{◌≡◌, ap, sym, ◌∙◌}
use mathlib.Core.Logic.{◌≢◌}
use mathlib.Core.Bool.{cond}
use mathlib.Core.List.{[], ◌∷◌}
use Prim.Native.Nat.{ℕ, ◌≤◌, ◌<◌}
use native.Mathlib.Omega.{arith}
use lib.Dec.{ltb}
use borrow.Author.Tests.{lt-ltb, le-ltb}
use lib.ListN.{length}
use Rattle.refusal.specs.declared.Refusal.TheVariants as refused
use Rattle.settle.specs.Pages.{opened}
use Rattle.settle.proofs.Slots.{opened-le}
use Rattle.flash.specs.declared.held.Held.{Held}
use Rattle.flash.specs.Chip.{Chip}
use Rattle.layout.specs.Layout.{decoded}
use Rattle.layout.proofs.Back.{decoded-index}
use Rattle.lent.specs.Memory.{Memory, chip_in, check}
use Rattle.lent.specs.Held.{Opened}
use Rattle.lent.specs.Looked.{memory_checks, memory_refusal}
use Rattle.lent.proofs.Lines.{given-first, given-after}
use Rattle.snapshot.specs.Snapshot.{snapshot_of, snapshot_length}
use Rattle.snapshot.specs.Asked.{write_refusal}
use Rattle.snapshot.proofs.Length.{length-snapshot}

module _ (m : Memory) where
  -- the length, from the state that the record holds
  pub length-written : (held : Held) (count n : ℕ) → Opened m held.flash → count ≡ opened held.flash.indices
      → n ≡ snapshot_length count held.flash.registers.verify_pending → n ≡ length (snapshot_of (chip_in m))
  length-written held count n o c l =
      let h = o.ready in
      let s : held.flash ≡ decoded m.bytes = ap (λ (k : Chip). k.flash) o.chip_is in
      let few = opened-le (decoded m.bytes).indices in
      let long = decoded-index m.bytes in
      rw (l, c, s) (sym (length-snapshot (chip_in m) h.array_long h.charges_long (omega arith) h.fits))

  module _ (room : ℕ) where
    -- a refusal of the memory comes first
    pub told-first : {n : ℕ} → n ≡ memory_refusal m → n ≢ 0 → n ≡ write_refusal room m
    unfolding memory_refusal write_refusal
    told-first e h = given-first (memory_checks m) (check refused.Output (ltb room (length (snapshot_of (chip_in m)))) ∷ []) _ e h

    module _ (a : memory_refusal m ≡ 0) (n : ℕ) (e : n ≡ length (snapshot_of (chip_in m))) where
      told-after : write_refusal room m ≡ cond (ltb room (length (snapshot_of (chip_in m)))) 8 0
      unfolding memory_refusal write_refusal
      told-after =
          given-after (memory_checks m) (check refused.Output (ltb room (length (snapshot_of (chip_in m)))) ∷ []) (omega arith, (omega arith, tt)) a

      pub told-8 : room < n → 8 ≡ write_refusal room m
      told-8 h = sym (told-after ∙ rw (← e, lt-ltb room n h))

      pub told-none : n ≤ room → write_refusal room m ≡ 0
      told-none h = told-after ∙ rw (← e, le-ltb room n h)
