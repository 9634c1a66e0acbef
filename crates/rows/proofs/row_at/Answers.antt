-- `rows::row_at` meets its contract: each call gives the number whose bytes stand at its index.
-- Assumes nothing.
use Rattle.std.proofs.Common.{rules, ◌∙◌}
use Rattle.rows.proofs.Values.{made-row}
use Rattle.rows.proofs.row_at.Goals as goal

pub returns : goal.returns
returns g c =
    let n = g.N.Number in
    g.met.N.Number.each c.from_fn.result ∙ made-row _ _ n.number n.WIDTH c.args.at c.args.from.now c.from_fn.result (λ k v f' called. search rules) g.row.L c.from_fn.ensures.items
