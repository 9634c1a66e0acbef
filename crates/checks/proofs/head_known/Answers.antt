-- `checks::head_known` meets its contract: each byte is tested beside its limit, and two may be any.
-- Assumes nothing.
use Rattle.std.proofs.Common.{rules, arith, ◌∙◌}
use Rattle.checks.proofs.Limits.{known}
use Rattle.checks.proofs.head_known.Goals as goal

pub returns : goal.returns
returns c = c.within.ensures ∙ known c.args.head.now (search rules) (λ i. omega (arith, c.fits-head i))
