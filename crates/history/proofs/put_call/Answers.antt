-- `history::put_call` meets its contract: three numbers in the place of as many. Assumes nothing.
use mathlib.Core.Path.{◌≡◌, sym, ◌∙◌}
use mathlib.Core.List.{[], ◌∷◌, append_assoc}
use Prim.Native.Nat.{◌+◌, ◌-◌}
use native.Mathlib.Omega.{arith}
use lib.ListN.{take, drop}
use lib.Seq.{sets-eq, drop-drop}
use Rattle.history.proofs.put_call.Goals as goal

pub returns : goal.returns
returns c =
    let x = c.args in
    let l = x.calls.now in
    let ys = x.what ∷ x.time.0 ∷ x.time.1 ∷ [] in
    let e : x.at + 3 - x.at ≡ 3 = omega arith in
    rw (e, c.copy_from_slice.ensures.after, drop-drop 3 x.at l)
    (sym (sets-eq ys l x.at (omega arith) ∙ append_assoc (take x.at l) ys (drop (x.at + 3) l)))
