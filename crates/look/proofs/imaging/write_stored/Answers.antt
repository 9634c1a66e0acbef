-- `look::imaging::write_stored` meets its contract. The loop's invariant: the bytes before the address are stored. Assumes nothing.
use mathlib.Core.Path.{◌≡◌, refl}
use Prim.Native.Nat.{◌-◌}
use native.Mathlib.Omega.{arith}
use Rattle.lists.proofs.Stores.{sets-turn}
use Rattle.look.proofs.imaging.write_stored.Goals as goal

pub loop-address-preserved : goal.loop-address-preserved
loop-address-preserved c = let l = c.loop-address in sets-turn _ _ l.out _ l.address _ l.invariant refl (omega arith) (omega arith)

pub returns : goal.returns
returns c =
    let x = c.args in
    let all : c.loop-address.address - x.start ≡ x.end - x.start = omega arith in
    rw all at c.loop-address.invariant
