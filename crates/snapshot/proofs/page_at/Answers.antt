-- `snapshot::page_at` meets its contract: the definition is the code's sum. Assumes nothing.
use mathlib.Core.Path.{refl}
use Rattle.snapshot.specs.Places.{page_at}
use Rattle.snapshot.proofs.page_at.Goals as goal

pub returns : goal.returns
unfolding page_at
returns c = refl
