-- `serving::serve` meets its contract, by what a replay shows of the desk. Assumes nothing.
use native.Mathlib.Omega.{arith}
use Rattle.serving.proofs.Answered.{done-some, serves}
use Rattle.serving.proofs.serve.Goals as goal

pub noted_at_once-requires : goal.noted_at_once-requires
noted_at_once-requires c =
    let d = done-some _ _ c.args.calls.now _ _ c.requires.0 (omega (arith, c.requires)) _ c.replay-answer.ensures.done in
    (d.0, omega (arith, d.1, c.requires), omega (arith, d.1, c.requires))

pub returns-clause-serves : goal.returns-clause-serves
returns-clause-serves c =
    serves _ _ _ _ _ c.requires.0 (omega (arith, c.requires)) _ c.replay-answer.ensures.done _ _ _ c.args.ongoing.goes_on c.noted_at_once.ensures
