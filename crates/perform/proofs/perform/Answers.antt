-- `perform::perform` meets its contract: by whether the call settles. Assumes nothing.
use Rattle.flash.proofs.Performs.{performs-stored}
use mathlib.Core.Path.{sym, ◌∙◌}
use Rattle.perform.proofs.perform.Goals as goal

pub perform_settling-requires : goal.perform_settling-requires
perform_settling-requires c =
    let p = c.requires in
    let s = sym c.settles.ensures ∙ c.if-settles.true in
    record { fit = p.fit; placed = p.placed; room = p.room s; settles = s }

pub returns-then-settles : goal.returns-then-settles
returns-then-settles c =
    c.perform_settling.ensures

pub stored_answer-value-requires : goal.stored_answer-value-requires
stored_answer-value-requires c =
    let p = c.requires in (sym c.settles.ensures ∙ c.if-settles.false, p.placed, p.fit.array_long)

pub returns : goal.returns
returns c =
    performs-stored _ _ _ _ (sym c.settles.ensures ∙ c.if-settles.false) _ c.next.ensures _ c.stored_answer-value.ensures.0 c.stored_answer-value.ensures.1
