-- `save::put_state` meets its contract: the runs and the sensed bytes, each written after what stands already.
-- Assumes nothing.
use mathlib.Core.Path.{◌≡◌, refl, ◌∙◌}
use mathlib.Core.List.{append_assoc}
use Prim.Native.Nat.{◌+◌, ◌*◌}
use lib.ListN.{length}
use Rattle.layout.specs.Layout.{option_byte}
use Rattle.rows.proofs.Runs.{row-after}
use Rattle.snapshot.specs.Snapshot.{latched, supplies, instants, pending, state_fields}
use Rattle.save.proofs.Runs.{after, state-row}
use native.Mathlib.Omega.{arith}
use borrow.Author.Rules.{rules}
use Rattle.save.proofs.put_state.Goals as goal

pub put_row-requires : goal.put_row-requires
put_row-requires c = let long : length c.args.flash.sensed ≡ 4 = search rules in omega arith

pub returns : goal.returns
unfolding state_fields
returns c =
    let x = c.args in
    let k = x.at in
    let v = state_fields x.flash in
    let e = c.put_pending-end.result in
    let l₁ = c.put_controls.new.out in
    let l₂ = c.put_latched.new.out in
    let l₃ = c.put_supplies.new.out in
    let l₄ = c.put_instants.new.out in
    let l₅ = c.put_pending-end.new.out in
    let p₂ = after (k + 5) (k + 5 + 130) (k + 135) l₁ l₂ _ (latched.write v.1.0) c.put_latched.ensures c.put_controls.ensures (omega arith) in
    let p₃ = after (k + 135) (k + 135 + 4) (k + 139) l₂ l₃ _ (supplies.write v.1.1.0) c.put_supplies.ensures p₂ (omega arith) in
    let p₄ = after (k + 139) (k + 139 + 112) (k + 251) l₃ l₄ _ (instants.write v.1.1.1.0) c.put_instants.ensures p₃ (omega arith) in
    let p₅ = after (k + 251) e e l₄ l₅ _ (pending.write v.1.1.1.1.0) c.put_pending-end.ensures.1 p₄ refl in
    let sensed = x.flash.sensed in
    let long : length sensed ≡ 4 = search rules in
    let m = k + 256 + 18 * option_byte x.flash.registers.verify_pending in
    let p₆ =
    row-after 1 e 4 m l₅ c.put_row.new.to sensed sensed _ refl long
    (omega (arith, c.put_pending-end.ensures.0)) c.put_row.ensures p₅ in
    rw (state-row v) (p₆ ∙ simp append_assoc)
