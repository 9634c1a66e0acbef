-- What a function shows of a look at memory: what is seen is put at the start of a slice, up to the place that is given back, or nothing on
-- a refusal.
-- Assumes nothing.
use Rattle.std.specs.Prelude.{ℕ, ◌≡◌, List, Result, Ok, Err}
use Rattle.refusal.specs.declared.Refusal.{Refusal}
use Rattle.refusal.specs.Refusal.{number}
use Rattle.time.specs.declared.Time.{Time}
use Rattle.lent.specs.Memory.{Memory}
use Rattle.grammar.specs.declared.Looking.{Looking}
use Rattle.text.specs.Puts.{Puts}
use Rattle.course.specs.Desk.{looked_refusal, looked_said}

abbrev pub Looks : ℕ → Looking → Time → Memory → Result ℕ Refusal → List ℕ → List ℕ → Type 0
Looks line l t m (Ok end) out left = (looked_refusal l t m ≡ 0) × Puts (looked_said line l t m) 0 out left end
Looks line l t m (Err r) out left = (number r ≡ looked_refusal l t m) × (left ≡ out)
