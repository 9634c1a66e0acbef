-- The marks of all pages, one after the other: a list is theirs if each of its places has the mark of its page.
-- Assumes nothing.
use mathlib.Core.Path.{◌≡◌, sym, ◌∙◌}
use mathlib.Core.Bool.{Bool}
use mathlib.Core.List.{List}
use Prim.Native.Nat.{ℕ, ◌<◌}
use lib.ListN.{length, get_or}
use lib.Seq.{ext_get_or}
use native.Mathlib.Nat.{zero-add}
use Rattle.std.specs.List.{enumerate_from}
use Rattle.std.proofs.lemmas.List.{length-map, get_or-map}
use Rattle.std.proofs.lemmas.List.FromFn.{length-enumerate_from, get_or-enumerate_from}
use Rattle.flash.specs.declared.PageState.{PageState}
use Rattle.flash.specs.declared.PageState.TheVariants.{Blank}
use Rattle.picture.specs.Marks.{mark_of, marks_of}

module _ (states : List PageState) (charged : ℕ → Bool) where
  abbrev mark : ℕ × PageState → ℕ
  mark page = mark_of page.1 (charged page.0)

  length-marks : length (marks_of states charged) ≡ length states
  unfolding marks_of
  length-marks = length-map (enumerate_from 0 states) mark ∙ length-enumerate_from 0 states

  mark-at : (k : ℕ) → k < length states → get_or (marks_of states charged) k 0 ≡ mark_of (get_or states k Blank) (charged k)
  unfolding marks_of
  mark-at k h =
      get_or-map mark (enumerate_from 0 states) k (0, Blank) 0 (rw (length-enumerate_from 0 states) h)
      ∙ rw (get_or-enumerate_from 0 states k (0, Blank) h, zero-add k)

  pub marked : (marks : List ℕ) → length marks ≡ length states
      → ((k : ℕ) → k < length states → get_or marks k 0 ≡ mark_of (get_or states k Blank) (charged k)) → marks ≡ marks_of states charged
  marked marks l each =
      ext_get_or 0 marks (marks_of states charged) (l ∙ sym length-marks) (λ k h. let b = rw l at h in each k b ∙ sym (mark-at k b))
