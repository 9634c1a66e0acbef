-- `serving::noted_at_once` meets its contract: the last call is noted at the course after those that passed. Assumes nothing.
use Rattle.serving.proofs.noted_at_once.Goals as goal

pub returns : goal.returns
returns c = λ m. rw (c.call_at-asking.ensures.is, c.passed-before.ensures.course, c.passed-before.ensures.manner) at (c.noted.ensures m)
