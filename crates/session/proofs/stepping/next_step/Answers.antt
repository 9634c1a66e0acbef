-- `session::stepping::next_step` meets its contract. Assumes nothing.
use Rattle.session.proofs.Gone.{step-goes}
use Rattle.session.proofs.stepping.next_step.Goals as goal

pub returns-clause-goes : goal.returns-clause-goes
returns-clause-goes g c =
    let step = c.step_in_piece-s.ensures in
    step-goes c.args.ongoing.manner c.args.run _ step.long step.steps
