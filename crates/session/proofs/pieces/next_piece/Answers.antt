-- `session::pieces::next_piece` meets its contract: of the cases, a new piece alone is not seen at once. Assumes nothing.
use Rattle.session.proofs.Gone.{new-piece}
use Rattle.session.proofs.pieces.next_piece.Goals as goal

pub returns-in-Ok-clause-moves : goal.returns-in-Ok-clause-moves
returns-in-Ok-clause-moves g c = new-piece c.with_piece.ensures _
