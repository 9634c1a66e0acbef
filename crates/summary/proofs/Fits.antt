-- No report is longer than 9,214 bytes, so a slice of that many holds every one whole. A template filled is no longer than its bytes with
-- each number at all of its places and each word at its length, and so many lines are no longer than so many times the longest.
-- Assumes nothing.
use Rattle.std.specs.Prelude.{Option, None, Some, Ok}
use mathlib.Core.Path.{◌≡◌}
use mathlib.Core.Bool.{Bool, true, false, cond, not, ◌&&◌, ◌||◌}
use mathlib.Core.List.{List, [], ◌∷◌}
use Prim.Native.Nat.{ℕ, zero, suc, ◌+◌, ◌-◌, ◌*◌, ◌/◌, ◌≤◌}
use native.Mathlib.Nat.{zero-add}
use native.Mathlib.Omega.{arith}
use lib.Dec.{eqb, ltb}
use lib.ListN.{length, get_or, take, drop, length-append, length-take}
use lib.Seq.{sets-eq, take_all, take-append_seam}
use Rattle.time.specs.declared.Time.{Time}
use Rattle.lists.proofs.Bools.{either}
use Rattle.flash.specs.Chip.{Chip}
use Rattle.flash.specs.declared.PageState.{PageState}
use Rattle.flash.specs.declared.PageState.TheVariants.{Blank, Legible}
use Rattle.flash.specs.Looking.{page_states}
use Rattle.text.specs.declared.Mark.{Mark}
use Rattle.text.specs.declared.Mark.TheVariants.{Plain, Word, Number}
use Rattle.text.specs.Text.{bytes, digits, mark_of, piece, taken, filled}
use Rattle.text.specs.Puts.{fitting, Puts}
use Rattle.answers.specs.Report.{call_lines, verdict_line}
use Rattle.verdict.specs.declared.Counts.{Counts}
use Rattle.summary.specs.declared.Judged.{Judged}
use Rattle.summary.specs.Summary.{lines, left_out_line, pulses_in, counts_text, pages_in, state_line, page_told, pages_text, map_row, map_text, lies, address_line, only_line, legible_among, judged_text, summary_text}
use Rattle.summary.specs.Reported.{marks_for, report_text, Reports}

-- ---- templates

digits-most : (padded : Bool) (b k n : ℕ) → length (digits padded b k n) ≤ k
unfolding digits
digits-most padded b zero n = omega arith
digits-most padded b (suc k) n =
    let front = either (λ (l : List ℕ). length l ≤ k) (not padded && ltb n b) {x = []} {y = digits padded b k (n / b)} (omega arith) (digits-most padded b k (n / b)) in
    rw length-append (omega arith)

-- the most bytes that a mark stands for, with a word of so many bytes
weight : Mark → ℕ → ℕ
weight Plain word = 1
weight Word word = word
weight (Number padded hex places) word = places

piece-most : (m : Mark) (b : ℕ) (word : List ℕ) (n : ℕ) → length (piece m b word n) ≤ weight m (length word)
unfolding weight
piece-most Plain b word n = omega arith
piece-most Word b word n = omega arith
piece-most (Number padded hex places) b word n = digits-most padded _ places n

most : List ℕ → ℕ → ℕ
most [] word = 0
most (b ∷ template) word = weight (mark_of b) word + most template word

filled-most : (template word numbers : List ℕ) → length (filled template word numbers) ≤ most template (length word)
unfolding filled most
filled-most [] word numbers = omega arith
filled-most (b ∷ template) word numbers =
    let p = piece-most (mark_of b) b word (get_or numbers 0 0) in
    let r = filled-most template word (drop (taken (mark_of b)) numbers) in
    rw length-append (omega arith)

-- ---- lines

lines-most : (line : ℕ → List ℕ) (w : ℕ) → ((i : ℕ) → length (line i) ≤ w) → (n i : ℕ) → length (lines line i n) ≤ n * w
unfolding lines
lines-most line w each zero i = omega arith
lines-most line w each (suc n) i =
    let l = each i in
    let r = lines-most line w each n (suc i) in
    rw length-append (omega arith)

-- a line that is there by a test
by-test : (b : Bool) (xs ys : List ℕ) (w : ℕ) → length xs ≤ w → length ys ≤ w → length (cond b xs ys) ≤ w
by-test b xs ys w h k = either (λ (l : List ℕ). length l ≤ w) b h k

-- ---- the parts of a report

counts-most : (c : Counts) → length (counts_text c) ≤ 706
unfolding counts_text weight most
counts-most c =
    let calls : length (call_lines c.made c.refused) ≤ 69 = filled-most _ [] _ in
    let left : length (left_out_line c.left_out) ≤ 37 = by-test (eqb c.left_out 0) [] _ 37 (omega arith) (filled-most _ [] _) in
    let pulses = lines-most (pulses_in c.tally) 100 (λ i. filled-most _ [] _) 6 0 in
    rw (length-append, length-append) (omega arith)

state-most : (state : PageState) (p : ℕ) → length (state_line state p) ≤ 19
unfolding weight most
state-most Blank p = omega arith
state-most Legible p = filled-most _ [] _

pages-most : (states : List PageState) → length (pages_text states) ≤ 7926
unfolding pages_text pages_in weight most
pages-most states =
    let blocks = lines-most (pages_in states) 105 (λ i. filled-most _ [] _) 6 0 in
    let pages = lines-most (page_told states) 19 (λ i. state-most (get_or states i Blank) i) 384 0 in
    rw length-append (omega arith)

row-most : (marks : List ℕ) (r : ℕ) → length (map_row marks r) ≤ 38
unfolding weight most
row-most marks r =
    let f = filled-most (bytes "$ @\n") (take 32 (drop (r * 32) marks)) (r * 32 * 128 ∷ []) in
    omega (arith, length-take 32 (drop (r * 32) marks))

map-most : (marks : Option (List ℕ)) → length (map_text marks) ≤ 509
unfolding map_text weight most
map-most None = omega arith
map-most (Some marks) =
    let head = filled-most (bytes "map: . blank, + reads FF with charge left, # legible\n") [] [] in
    let rows = lines-most (map_row marks) 38 (row-most marks) 12 0 in
    rw length-append (omega arith)

verdict-most : (n : ℕ) → length (verdict_line n) ≤ 45
unfolding weight most
verdict-most n = by (eqb n 0)
  where
    by : (b : Bool) → length (filled (cond b (bytes "verdict: blank\n") (bytes "verdict: legible, % pages\n")) [] (n ∷ [])) ≤ 45
    by true = let f = filled-most (bytes "verdict: blank\n") [] (n ∷ []) in omega arith
    by false = filled-most _ [] _

judged-most : (states : List PageState) (j : Judged) → length (judged_text states j) ≤ 73
unfolding judged_text weight most
judged-most states j =
    let only : length (only_line j) ≤ 28 =
    by-test (eqb j.pages 384 || eqb j.pages 0 || not (lies j)) [] (address_line j) 28 (omega arith) (filled-most _ [] _) in
    let verdict = verdict-most (legible_among states j) in
    rw length-append (omega arith)

summary-most : (c : Counts) (states : List PageState) (marks : Option (List ℕ)) (j : Judged) → length (summary_text c states marks j) ≤ 9214
unfolding summary_text
summary-most c states marks j =
    let a = counts-most c in
    let b = pages-most states in
    let d = map-most marks in
    let e = judged-most states j in
    rw (length-append, length-append, length-append) (omega arith)

-- A text that fits is there whole.
puts_whole : (text out left : List ℕ) (end : ℕ) → length text ≤ length out → Puts text 0 out left end → take end left ≡ text
puts_whole text out left end h p =
    let all : fitting out 0 text ≡ text = take_all (length out - 0) text (omega arith) in
    rw (p.end_is, p.left_is, all, zero-add (length text), sets-eq text out 0 (omega arith)) (take-append_seam text _)

module _ (c : Counts) (j : Judged) (map : Bool) (t : Time) (k : Chip) where
  -- every report fits into 9,214 bytes
  pub report-most : length (report_text c j map t k) ≤ 9214
  unfolding report_text
  report-most = summary-most c (page_states t k) (marks_for map t k) j

  -- so up to where it ends in a slice of that many stands the report and nothing else
  pub report-whole : (refusal : ℕ) (out left : List ℕ) (end : ℕ) → Reports refusal (report_text c j map t k) out left (Ok end)
      → 9214 ≤ length out → take end left ≡ report_text c j map t k
  report-whole refusal out left end r h = puts_whole (report_text c j map t k) out left end (omega (arith, report-most)) r.1
