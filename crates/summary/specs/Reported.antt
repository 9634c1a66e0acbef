-- The report on lent memory at a time: the look's refusal, or the text of what the look shows.
-- Assumes nothing.
use Rattle.std.specs.Prelude.{ℕ, ◌≡◌, Bool, cond, List, Option, None, Some, Result, Ok, Err}
use Rattle.refusal.specs.declared.Refusal.{Refusal}
use Rattle.refusal.specs.Refusal.{number}
use Rattle.time.specs.declared.Time.{Time}
use Rattle.flash.specs.Chip.{Chip}
use Rattle.flash.specs.Looking.{page_states}
use Rattle.picture.specs.Marks.{marks_at}
use Rattle.text.specs.Puts.{Puts}
use Rattle.verdict.specs.declared.Counts.{Counts}
use Rattle.summary.specs.declared.Judged.{Judged}
use Rattle.summary.specs.Summary.{summary_text}

-- the marks of all pages at a time, where the map is asked for
abbrev pub marks_for : Bool → Time → Chip → Option (List ℕ)
marks_for map t k = cond map (Some (marks_at t k)) None

-- the report on a chip at a time
unfoldable pub report_text : Counts → Judged → Bool → Time → Chip → List ℕ
report_text c j map t k = summary_text c (page_states t k) (marks_for map t k) j

-- What a report leaves: the text, from the slice's start up to the place that is given back; on the look's refusal the slice as it was.
abbrev pub Reports : ℕ → List ℕ → List ℕ → List ℕ → Result ℕ Refusal → Type 0
Reports refusal text out left (Ok end) = (refusal ≡ 0) × Puts text 0 out left end
Reports refusal text out left (Err r) = (number r ≡ refusal) × (left ≡ out)
