-- `summary::report` meets its contract: the text is that of the chip, whose states and marks are worked out. Assumes nothing.
use mathlib.Core.Path.{◌≡◌, ◌∙◌}
use mathlib.Core.Bool.{Bool}
use mathlib.Core.List.{List}
use Prim.Native.Nat.{ℕ}
use borrow.Author.Rules.{rules}
use Rattle.std.specs.Prelude.{Option}
use Rattle.time.specs.declared.Time.{Time}
use Rattle.flash.specs.declared.PageState.{PageState}
use Rattle.flash.specs.Chip.{Chip}
use Rattle.flash.specs.Looking.{page_states}
use Rattle.picture.specs.Marks.{charged_at, marks_of, marks_at}
use Rattle.lent.specs.Memory.{chip_in}
use Rattle.lent.specs.Views.{memory_in}
use Rattle.text.specs.Puts.{Puts}
use Rattle.verdict.specs.declared.Counts.{Counts}
use Rattle.summary.specs.declared.Judged.{Judged}
use Rattle.summary.specs.Summary.{summary_text}
use Rattle.summary.specs.Reported.{marks_for, report_text}
use Rattle.summary.proofs.report.Goals as goal
use Rattle.summary.proofs.report.Goals.{then-map, else-map}

module _ (t : Time) (k : Chip) (held : Chip) (same : held ≡ k) (states : List PageState) (seen : states ≡ page_states t held) where
  marks-seen : (marks : List ℕ) → marks ≡ marks_of states (charged_at t held) → marks ≡ marks_at t k
  unfolding marks_at
  marks-seen marks e = e ∙ rw (seen, same)

  told : (c : Counts) (j : Judged) (map : Bool) (marks : Option (List ℕ)) (out left : List ℕ) (end : ℕ) → marks ≡ marks_for map t k
      → Puts (summary_text c states marks j) 0 out left end → Puts (report_text c j map t k) 0 out left end
  unfolding report_text
  told c j map marks out left end e p = rw (seen, same, e) at p

pub returns : goal.returns
returns c =
    let x = c.args in
    let same = c.in_ok-held.ensures.told.1 in
    let seen = c.page_states-states.ensures in
    let marked : c.if-map.marks ≡ marks_for x.map x.time (chip_in (memory_in x.lent)) =
    elim c.if-map.branch [
      | then-map w ↦ w.marks-is ∙ rw (w.if-map.true, marks-seen _ _ _ same _ seen _ w.marks.ensures)
      | else-map w ↦ w.marks-is ∙ rw w.if-map.false
    ] in
    (c.in_ok-held.ensures.told.0, told _ _ _ same _ seen x.counts x.judged x.map _ _ _ _ (c.as_ref.ensures.value ∙ marked) (search rules))
