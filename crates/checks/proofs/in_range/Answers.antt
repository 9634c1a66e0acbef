-- `checks::in_range` meets its contract: what is read are the numbers of the record's rows.
-- Assumes nothing.
use Rattle.rows.proofs.Widths.{word-one}
use Rattle.rows.specs.Rows.{row}
use Rattle.layout.specs.Layout.{rows_in, in_range}
use Rattle.checks.proofs.in_range.Goals as goal

pub returns : goal.returns
unfolding rows_in in_range row
returns c =
    let s = c.args.«record».now in rw (c.placed-2.ensures, c.placed.ensures, c.get-address.ensures, c.get-page.ensures, ← (word-one s 0))
