-- `steps::due::do_due` meets its contract where a look is due. Assumes nothing.
use Rattle.steps.proofs.DueLines.{look-due}
use Rattle.steps.proofs.due.do_due.Goals as goal

pub returns-in-Look : goal.returns-in-Look
returns-in-Look c = λ events.
    let on = c.args.ongoing in
    rw c.in-Look.is (look-due on.manner c.args.place.lines on.course _ events _ c.in-Look.looking c.in-Look.time on.goes_on (c.look.ensures events))
