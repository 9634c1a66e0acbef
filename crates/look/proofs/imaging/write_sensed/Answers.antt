-- `look::imaging::write_sensed` meets its contract. The loop's invariant: the bytes of the image's page before the address are stored.
-- Assumes nothing.
use mathlib.Core.Path.{◌≡◌}
use Prim.Native.Nat.{◌*◌, ◌-◌}
use native.Mathlib.Omega.{arith}
use Rattle.look.proofs.After.{after-long}
use Rattle.lists.proofs.Stores.{sets-turn}
use Rattle.look.proofs.imaging.write_sensed.Goals as goal

pub loop-address-preserved : goal.loop-address-preserved
loop-address-preserved c =
    let l = c.loop-address in
    let long = after-long c.args.exposure.now c.args.cells.now in
    sets-turn _ _ l.out _ l.address _ l.invariant c.sensed_after.ensures (omega arith) (omega arith)

pub returns : goal.returns
returns c =
    let x = c.args in
    let all : c.loop-address.address - x.page * 128 ≡ 128 = omega arith in
    rw all at c.loop-address.invariant
