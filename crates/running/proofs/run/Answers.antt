-- `running::run` meets its contract: light calls leave the rest as it is, and the call after them ends the replay or leaves the rest to
-- what it left. Assumes nothing.
use native.Mathlib.Omega.{arith}
use mathlib.Core.Path.{sym, ◌∙◌}
use Rattle.lent.proofs.Holding.{ready-fit}
use Rattle.listing.proofs.Steps.{gone-light, gone-end, gone-stop, gone-on}
use Rattle.running.proofs.run.Goals as goal

pub returns-then-end-i : goal.returns-then-end-i
returns-then-end-i c =
    rw (c.default.ensures.0, c.default.ensures.1) (gone-end (gone-light c.loop-i.invariant c.run_light-ahead.ensures) (omega arith))

pub returns-then-stops : goal.returns-then-stops
returns-then-stops c =
    gone-stop (gone-light c.loop-i.invariant c.run_light-ahead.ensures) (omega arith) c.call_at-asking.ensures.is c.call_held-last.ensures c.call_at-asking.ensures.fit (sym c.if-stops.true ∙ c.stops.ensures)

pub loop-i-preserved : goal.loop-i-preserved
loop-i-preserved c =
    gone-on (gone-light c.loop-i.invariant c.run_light-ahead.ensures) (omega arith) c.call_at-asking.ensures.is c.call_held-last.ensures c.call_at-asking.ensures.fit (sym c.if-stops.false ∙ c.stops.ensures)

pub call_held-last-requires : goal.call_held-last-requires
call_held-last-requires c = ready-fit _ (gone-light c.loop-i.invariant c.run_light-ahead.ensures).ready
