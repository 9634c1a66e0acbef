-- Text put into a lent slice: from a place on, cut off at the slice's end.
-- Assumes nothing.
use Rattle.std.specs.Prelude.{ℕ, ◌+◌, ◌-◌, ◌≤◌, ◌≡◌, List, length, take}
use Rattle.std.proofs.lemmas.List.Edits.{sets}

-- what of a text fits into a slice from a place on
abbrev pub fitting : List ℕ → ℕ → List ℕ → List ℕ
fitting out at text = take (length out - at) text

-- Where a text ends that was put at a place: not before the place, and not past the slice's end, or the place if that is past it.
pub record Ends (at : ℕ) (out : List ℕ) (end : ℕ) : Type 0 where
  pub onward : at ≤ end
  pub within : end ≤ at + (length out - at)

-- A text is put at a place: the slice as it was and as it is left, and where the text ends.
pub record Puts (text : List ℕ) (at : ℕ) (out left : List ℕ) (end : ℕ) : Type 0 where
  pub left_is : left ≡ sets out at (fitting out at text)
  pub end_is : end ≡ at + length (fitting out at text)
  pub ends : Ends at out end
