-- The two answers are those of a line that ended and of one that goes on.
use Rattle.std.proofs.Common.{rules}
use Rattle.feeding.proofs.Line.{ended-at, more-at}
use Rattle.feeding.proofs.feed.Goals as goal

pub returns-in-Some : goal.returns-in-Some
returns-in-Some c =
    let put = c.put in
    ended-at c.args.so_far put.result c.args.at c.args.piece.now c.args.line.now put.new.line (search rules) (search rules)
    c.in-Some.end c.in-Some.ensures put.ensures.long_is put.ensures.put

pub returns-in-None : goal.returns-in-None
returns-in-None c =
    let put = c.put-in-None in
    more-at c.args.so_far put.result c.args.at c.args.piece.now c.args.line.now put.new.line (search rules) (search rules)
    c.in-None.ensures put.ensures.long_is put.ensures.put
