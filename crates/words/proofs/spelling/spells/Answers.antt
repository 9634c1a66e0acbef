-- As many bytes as the name has are compared with it, one beside the other.
use Rattle.std.proofs.Common.{arith}
use Rattle.words.proofs.Spelled.{beside}
use Rattle.words.proofs.spelling.spells.Goals as goal

pub returns-then-word-name : goal.returns-then-word-name
returns-then-word-name c = rw c.beside.ensures (beside c.args.name.now c.args.word.now (omega arith))
