-- `summary::mapping::put_rows` meets its contract: each call puts the line of its row.
-- Assumes nothing.
use borrow.Author.Rules.{rules}
use Rattle.summary.specs.Summary.{map_row}
use Rattle.summary.proofs.mapping.put_rows.Goals as goal

pub returns : goal.returns
returns c = c.put_lines.ensures (map_row c.args.marks.now) (λ k h t left put. search rules)
