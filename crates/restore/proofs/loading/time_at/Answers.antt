-- `restore::loading::time_at` meets its contract: an instant's number is that of its halves, the low one first.
-- Assumes nothing.
use native.Mathlib.Omega.{arith}
use mathlib.Core.Path.{◌∙◌}
use Rattle.time.proofs.Laws.{same-raw}
use Rattle.rows.proofs.Widths.{word_small}
use Rattle.snapshot.specs.Places.{time_at}
use Rattle.snapshot.proofs.StateRead.{word-raw}
use Rattle.restore.proofs.loading.time_at.Goals as goal

pub returns : goal.returns
returns c =
    let x = c.args in
    same-raw c.get.result (time_at x.bytes.now x.at) (omega (arith, c.get.type_inv)) (word_small 8 x.bytes.now x.at (λ j. (c.type_inv.bytes j).fits)) (c.get.ensures ∙ word-raw x.bytes.now x.at)
