-- An instant is written: its 16 bytes are the fraction's 8 and the seconds' 8.
-- Assumes nothing.
use mathlib.Core.Path.{◌≡◌}
use mathlib.Core.List.{append_assoc}
use Prim.Native.Nat.{◌+◌, ◌*◌, ◌^◌}
use lib.ListN.{take}
use native.Mathlib.Omega.{arith}
use Rattle.time.specs.Raw.{raw}
use Rattle.rows.specs.Rows.{bytes}
use Rattle.rows.proofs.Widths.{bytes-split}
use Rattle.rows.proofs.instants.TimeNumber.put.Goals as goal

pub returns : goal.returns
unfolding raw
returns c =
    let x = c.args in
    let t = x.self in
    let k = x.at in
    let e : t.0 * 2 ^ 64 + t.1 ≡ t.1 + 256 ^ 8 * t.0 = omega arith in
    let p : k + 16 ≡ k + 8 + 8 = omega arith in
    rw (p, e, bytes-split 8 8 t.1 t.0 (omega arith), c.put-2.ensures, c.put.ensures)
    (append_assoc (take k x.to.now) (bytes 8 t.1) (bytes 8 t.0))
