-- `charging::expose` meets its contract: a cell moved by the clipped amount is the cell exposed.
-- Assumes nothing.
use mathlib.Core.Path.{◌∙◌}
use native.Mathlib.Omega.{arith}
use Rattle.time.specs.Raw.{span}
use Rattle.cell.proofs.Rule.{clipped-exposes}
use Rattle.charging.proofs.expose.Goals as goal

pub returns : goal.returns
returns c =
    let x = c.args in
    c.moved.ensures ∙ clipped-exposes x.direction x.latched (span x.lasting) _ x.q c.amount.ensures (omega arith)
