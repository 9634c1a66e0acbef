-- `save::put_latched` meets its contract: the latch's row, and the page's two bytes after it.
-- Assumes nothing.
use mathlib.Core.Path.{◌≡◌, refl, ◌∙◌}
use mathlib.Core.List.{append_assoc}
use Prim.Native.Nat.{◌+◌}
use lib.ListN.{length, take}
use Rattle.rows.specs.Rows.{bytes, row_bytes}
use Rattle.rows.proofs.Runs.{row-after}
use Rattle.snapshot.specs.Snapshot.{state_fields}
use Rattle.save.proofs.Runs.{after, latched-row}
use native.Mathlib.Omega.{arith}
use borrow.Author.Rules.{rules}
use Rattle.save.proofs.put_latched.Goals as goal

pub put_row-requires : goal.put_row-requires
put_row-requires c = let long : length c.args.flash.registers.latch ≡ 128 = search rules in omega arith

pub returns : goal.returns
unfolding state_fields
returns c =
    let x = c.args in
    let k = x.at in
    let s = x.out.now in
    let r = x.flash.registers in
    let long : length r.latch ≡ 128 = search rules in
    let m = c.put_row.new.to in
    let e = row-after 1 k 128 (k + 128) s m r.latch r.latch _ refl long refl c.put_row.ensures refl in
    let f = after (k + 128) (k + 128 + 2) (k + 130) m _ _ (bytes 2 r.page) c.put.ensures e (omega arith) in
    rw latched-row (f ∙ append_assoc (take k s) (row_bytes 1 r.latch) (bytes 2 r.page))
