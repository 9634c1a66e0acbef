-- `lent::making::copy` meets its contract: all bytes are stored in the end, and they are as many as there is room for. Assumes nothing.
use mathlib.Core.Path.{◌≡◌, refl, ◌∙◌}
use mathlib.Core.List.{List, append-nil}
use Prim.Native.Nat.{ℕ, ◌+◌, ◌-◌}
use native.Mathlib.Omega.{arith}
use lib.ListN.{length, take, drop_of_length-le}
use lib.Seq.{sets, sets-eq, take-length}
use Rattle.lists.proofs.Stores.{sets-turn}
use Rattle.lent.proofs.making.copy.Goals as goal

all-stored : (from to : List ℕ) (n : ℕ) → n ≡ length from → length from ≡ length to → sets to 0 (take n from) ≡ from
all-stored from to n e h =
    rw (e, take-length from, sets-eq from to 0 (omega (arith, h)), drop_of_length-le to {i = 0 + length from} (omega (arith, h)))
    (append-nil from)

pub loop-i-preserved : goal.loop-i-preserved
loop-i-preserved c = let l = c.loop-i in sets-turn _ _ l.to 0 l.i _ l.invariant refl (omega arith) (omega arith)

pub returns : goal.returns
returns c =
    let x = c.args in
    let l = c.loop-i in
    l.invariant ∙ all-stored x.from.now x.to.now (l.i - 0) (omega arith) c.requires
