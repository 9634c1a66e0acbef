-- Text put by a cursor: it goes on from where it stands, in the slice that it holds.
-- Assumes nothing.
use Rattle.std.specs.Prelude.{ℕ, ◌≡◌, List, length}
use Rattle.text.specs.declared.Text.{Text}
use Rattle.text.specs.Puts.{Ends, Puts}

-- A text is put at a cursor's place: it holds the same slice then, and stands where the text ends.
pub record Says (text : List ℕ) (old new : Text) : Type 0 where
  pub same : new.out.ghost_name ≡ old.out.ghost_name
  pub puts : Puts text old.at old.out.now new.out.now new.at

-- Some text is put at a cursor's place: it holds the same slice then, and stands where a text may end.
pub record SaysSome (old new : Text) : Type 0 where
  pub same : new.out.ghost_name ≡ old.out.ghost_name
  pub long : length new.out.now ≡ length old.out.now
  pub ends : Ends old.at old.out.now new.at
