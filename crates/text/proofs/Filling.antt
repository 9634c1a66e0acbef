-- A template is filled piece by piece: what is left to put after some bytes of it, and a step of that.
-- Assumes nothing.
use mathlib.Core.Path.{◌≡◌}
use mathlib.Core.List.{List, ◌++◌}
use Prim.Native.Nat.{ℕ, ◌+◌, ◌≤◌, ◌<◌}
use native.Mathlib.Nat.{add-zero}
use native.Mathlib.Numerals.{add-one}
use lib.Dec.{lit≤}
use lib.ListN.{length, get_or, drop, drop_of_length-le}
use lib.Seq.{drop-cons, get_or-drop, drop-drop}
use Rattle.text.specs.declared.Mark.{Mark}
use Rattle.text.specs.declared.Mark.TheVariants.{Plain, Word, Number}
use Rattle.text.specs.Text.{mark_of, piece, taken, filled}
use Rattle.text.specs.declared.Text.{Text}
use Rattle.text.specs.Says.{Says}
use Rattle.text.proofs.Joined.{says_none, says_append}

pub taken-most : (m : Mark) → taken m ≤ 1
taken-most Plain = lit≤ tt
taken-most Word = lit≤ tt
taken-most (Number p h k) = lit≤ tt

-- Of a text that is to be put by a cursor, so much is left to put where it stands then.
pub record Left (text rest : List ℕ) (old mid : Text) : Type 0 where
  pub then : (new : Text) → Says rest mid new → Says text old new

module _ (template word numbers : List ℕ) where
  abbrev pub rest : ℕ → ℕ → List ℕ
  rest i used = filled (drop i template) word (drop used numbers)

  pub left_step : (i used b n taking : ℕ) (old mid next : Text)
      → Left (filled template word numbers) (rest i used) old mid → i < length template → b ≡ get_or template i 0
      → n ≡ get_or numbers used 0 → taking ≡ taken (mark_of b) → Says (piece (mark_of b) b word n) mid next
      → Left (filled template word numbers) (rest (i + 1) (used + taking)) old next
  unfolding filled
  left_step i used b n taking old mid next left h e f g p = record {
    then = λ new q. left.then new (rw step (says_append _ _ _ _ _ p q));
  }
    where
      step : rest i used ≡ piece (mark_of b) b word n ++ rest (i + 1) (used + taking)
      step = rw (add-one, drop-cons template i 0 h, ← e, get_or-drop, add-zero, ← f, g, drop-drop)

  pub left-none : (i used : ℕ) (old mid : Text) → Left (filled template word numbers) (rest i used) old mid
      → length template ≤ i → Says (filled template word numbers) old mid
  unfolding filled
  left-none i used old mid left h = left.then mid (rw (drop_of_length-le template h) (says_none mid))
