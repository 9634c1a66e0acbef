-- `coding::write` meets its contract: the rows, each written after what stands already; all together they are the whole record.
-- Assumes nothing.
use Prim.Native.Nat.{◌≤◌}
use lib.Seq.{take_all}
use lib.ListN.{length}
use mathlib.Core.List.{append_assoc, append-nil}
use mathlib.Core.Path.{◌≡◌, refl, sym, ◌∙◌}
use Rattle.rows.proofs.Runs.{row-next}
use Rattle.layout.specs.Layout.{latch_row, sensed_row, index_row, layout, record_length, encoded, rows_of}
use native.Mathlib.Omega.{arith}
use borrow.Author.Rules.{rules}
use Rattle.coding.proofs.write.Goals as goal

pub put_row-requires : goal.put_row-requires
put_row-requires c =
    let h : length c.args.flash.registers.latch ≡ latch_row.count = search rules in omega arith

pub put_row-requires-2 : goal.put_row-requires-2
put_row-requires-2 c =
    let h : length c.args.flash.sensed ≡ sensed_row.count = search rules in omega arith

pub put_row-requires-3 : goal.put_row-requires-3
put_row-requires-3 c =
    let h : length c.args.flash.indices ≡ index_row.count = search rules in omega arith

pub returns : goal.returns
unfolding encoded rows_of
returns c =
    let l = c.put_row-3.new.to in
    let whole : length l ≤ record_length = omega arith in
    let s = c.args.flash in
    let latch : length s.registers.latch ≡ latch_row.count = search rules in
    let sensed : length s.sensed ≡ sensed_row.count = search rules in
    let indices : length s.indices ≡ index_row.count = search rules in
    let m = c.put_row.new.to in
    let n = c.put_row-2.new.to in
    let e = row-next layout 3 c.put_scalars.new.record m s.registers.latch _ _ refl latch c.put_row.ensures c.put_scalars.ensures in
    let f = row-next layout 4 m n s.sensed _ _ refl sensed c.put_row-2.ensures e in
    let g = row-next layout 5 n l s.indices _ _ refl indices c.put_row-3.ensures f in
    sym (take_all record_length l whole) ∙ g ∙ simp (append_assoc, append-nil)
