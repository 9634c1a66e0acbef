-- `session::pieces::closed` meets its contract. Assumes nothing.
use mathlib.Core.Path.{refl}
use Rattle.session.proofs.Gone.{closes}
use Rattle.session.proofs.pieces.closed.Goals as goal

pub returns : goal.returns
returns c = closes _ _ refl refl c.requires.2 c.close-last.ensures.closes
