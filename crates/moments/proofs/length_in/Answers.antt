-- Where a byte is found says which form the word has.
use Rattle.moments.specs.Moments.{length_of}
use Rattle.moments.proofs.Words.{there, head, tail, not_there}
use Rattle.moments.proofs.length_in.Goals as goal

pub returns-in-Some : goal.returns-in-Some
unfolding length_of
returns-in-Some c =
    let w = c.args.word.now in
    let f = c.in-Some.ensures in
    rw (c.exactly_in.ensures, there 58 w _ f, head 58 w _ f, tail 58 w _ f)

pub returns-in-Some-find : goal.returns-in-Some-find
unfolding length_of
returns-in-Some-find c =
    let w = c.args.word.now in
    let f = c.in-Some-find.ensures in
    rw (c.decimals_in.ensures, not_there 58 w c.in_default.ensures, there 46 w _ f, head 46 w _ f, tail 46 w _ f)

pub returns : goal.returns
unfolding length_of
returns c = let w = c.args.word.now in rw (c.seconds_in.ensures, not_there 58 w c.in_default.ensures, not_there 46 w c.in_default-find.ensures)
