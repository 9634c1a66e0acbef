-- `coding::put_scalars` meets its contract: three rows, each written after what stands already.
-- Assumes nothing.
use mathlib.Core.List.{[], ◌++◌}
use mathlib.Core.Path.{refl, ◌∙◌}
use Rattle.rows.proofs.Runs.{row-next}
use Rattle.rows.specs.Rows.{row_bytes}
use Rattle.layout.specs.Layout.{layout, head_of, addresses_of, halves_of}
use Rattle.coding.proofs.put_scalars.Goals as goal

pub returns : goal.returns
unfolding head_of addresses_of halves_of
returns c =
    let x = c.args in
    let r = x.registers in
    let m = c.put_row.new.to in
    let n = c.put_row-2.new.to in
    let e = row-next layout 0 x.«record».now m _ (head_of r) [] c.head_of.ensures refl c.put_row.ensures refl in
    let f = row-next layout 1 m n _ (addresses_of r) (row_bytes 1 (head_of r)) c.addresses_of.ensures refl c.put_row-2.ensures e in
    row-next layout 2 n _ _ (halves_of r x.since) (row_bytes 1 (head_of r) ++ row_bytes 2 (addresses_of r)) (c.as_flattened.ensures.value ∙ c.halves_of.ensures) refl c.put_row-3.ensures f
