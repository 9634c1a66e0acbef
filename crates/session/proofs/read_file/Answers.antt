-- `session::read_file` meets its contract. Assumes nothing.
use Rattle.session.proofs.Gone.{read_if_whole}
use Rattle.session.proofs.read_file.Goals as goal

pub returns-clause-whole : goal.returns-clause-whole
returns-clause-whole g c =
    read_if_whole c.whole.result c.args.manner c.args.course c.beginning.result c.in_ok-run.run' _ _ _ _ _ _
    c.beginning.ensures c.in_ok-run.ensures.goes c.whole.ensures
