-- The ledger's calls over lent memory: their checks, and their whole outcome. Document 01, "Order of checking".
-- Assumes nothing.
use Rattle.std.specs.Prelude.{ℕ, zero, suc, ◌≡◌, Bool, false, ◌&&◌, List, [], ◌∷◌, length, Result, Ok, Err}
use Rattle.std.proofs.lemmas.List.Edits.{sets}
use Rattle.refusal.specs.declared.Refusal.{Refusal}
use Rattle.refusal.specs.declared.Refusal.TheVariants as refused
use Rattle.refusal.specs.Refusal.{told}
use Rattle.time.specs.declared.Time.{Time}
use Rattle.registers.specs.declared.Call.{Call}
use Rattle.registers.specs.declared.Call.TheVariants as call
use Rattle.registers.specs.Pulses.{pulse}
use Rattle.registers.specs.Calls.{settles}
use Rattle.flash.specs.declared.Flash.{Flash}
use Rattle.flash.specs.Chip.{step, answer}
use Rattle.layout.specs.Layout.{mode_of, decoded, refused3}
use Rattle.flash.specs.declared.Answer.{Answer}
use Rattle.lent.specs.declared.Request.{Request}
use Rattle.lent.specs.declared.Request.TheVariants.{WriteRegister, Write8, Read8, Read16, Protect, Reset, PowerOff, Environment}
use Rattle.lent.specs.Memory.{Memory, chip_in, memory_of, Check, check, place_line, first_given, misfits, past_end, mode_over, last_second, too_early, too_few_words}

-- the call that is asked for
abbrev pub call_of : Request → Call
call_of (WriteRegister a v) = call.WriteRegister a v
call_of (Write8 a v) = call.Write8 a v
call_of (Read8 a) = call.Read8 a
call_of (Read16 a) = call.Read16 a
call_of Protect = call.Protect
call_of Reset = call.Reset
call_of PowerOff = call.PowerOff
call_of (Environment mode modul oscillator) = call.Environment (mode_of mode) modul oscillator

-- refusal 4 of a call: its address, or its mode
abbrev pub misplaced : Request → Bool
misplaced (WriteRegister a v) = false
misplaced (Write8 a v) = past_end a
misplaced (Read8 a) = past_end a
misplaced (Read16 a) = past_end (suc a)
misplaced Protect = false
misplaced Reset = false
misplaced PowerOff = false
misplaced (Environment mode modul oscillator) = mode_over mode

abbrev pub call_place : Request → ℕ
call_place q = first_given (check refused.Place (misplaced q) ∷ [])

-- The table's lines for a call that is lent so many event words, from 4 on. Line 7 is for calls that settle.
abbrev pub call_checks : Request → Time → ℕ → Flash → List Check
call_checks q now words s =
    place_line (call_place q)
    ∷ check refused.LastSecond (last_second now)
    ∷ check refused.TooEarly (too_early now s)
    ∷ check refused.Events (settles (call_of q) now s.registers && too_few_words (pulse s.registers) words)
    ∷ []

unfoldable pub call_refusal : Request → Time → ℕ → Flash → ℕ
call_refusal q now words s = first_given (call_checks q now words s)

abbrev pub checks : Request → Time → ℕ → Memory → List Check
checks q now words m = check refused.Memory (misfits m) ∷ check refused.Record (refused3 m.bytes) ∷ call_checks q now words (decoded m.bytes)

unfoldable pub refusal : Request → Time → ℕ → Memory → ℕ
refusal q now words m = first_given (checks q now words m)

-- The whole outcome of a call: its number, its answer, memory and event words as it leaves them, and how many words it gave.
pub record Outcome : Type 0 where
  pub number : ℕ
  pub value : ℕ
  pub memory : Memory
  pub events : List ℕ
  pub count : ℕ

-- A refusal changes nothing. Words past the count stay.
unfoldable pub outcome_by : ℕ → Request → Time → List ℕ → Memory → Outcome
outcome_by zero q now lent m =
    let done = step (call_of q) now (chip_in m) in
    record {
      number = 0;
      value = answer (call_of q) now (chip_in m);
      memory = memory_of done.chip;
      events = sets lent 0 done.events;
      count = length done.events;
    }
outcome_by (suc n) q now lent m = record { number = suc n; value = 0; memory = m; events = lent; count = 0 }

unfoldable pub outcome : Request → Time → List ℕ → Memory → Outcome
outcome q now lent m = outcome_by (refusal q now (length lent) m) q now lent m

-- the value and the count of a call's answer: 0 where it is refused
abbrev pub value_of : Result Answer Refusal → ℕ
value_of (Ok answer) = answer.value
value_of (Err r) = 0

abbrev pub count_of : Result Answer Refusal → ℕ
count_of (Ok answer) = answer.count
count_of (Err r) = 0

-- the outcome that a function's answer and what it leaves make up
abbrev pub came_to : Result Answer Refusal → List ℕ → Memory → Outcome
came_to result events m = record { number = told result; value = value_of result; memory = m; events = events; count = count_of result }

-- what of a call's outcome a function gives back and leaves in lent memory
pub record Told (o : Outcome) (number count : ℕ) (left : Memory) (events : List ℕ) : Type 0 where
  pub number_is : number ≡ o.number
  pub count_is : count ≡ o.count
  pub memory_is : left ≡ o.memory
  pub events_are : events ≡ o.events
