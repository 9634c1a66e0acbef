-- A chip that is held by value, apart from the memory that it was read from: what is known of it between two calls, and the whole outcome of
-- a call on it. Document 01, "Order of checking".
-- Assumes nothing.
use Rattle.std.specs.Prelude.{ℕ, zero, suc, ◌≡◌, List, length, Result}
use Rattle.std.proofs.lemmas.List.Edits.{sets}
use Rattle.refusal.specs.declared.Refusal.{Refusal}
use Rattle.refusal.specs.Refusal.{told}
use Rattle.time.specs.declared.Time.{Time}
use Rattle.cell.specs.Cell.{array_bytes, array_cells}
use Rattle.flash.specs.declared.Answer.{Answer}
use Rattle.flash.specs.declared.Flash.{Flash}
use Rattle.flash.specs.Chip.{Chip, chip, step, answer}
use Rattle.layout.specs.Whole.{Fits, Sound}
use Rattle.lent.specs.declared.Request.{Request}
use Rattle.lent.specs.Memory.{Memory, chip_in, memory_of}
use Rattle.lent.specs.Asked.{Outcome, call_of, call_refusal, value_of, count_of}
use Rattle.lent.specs.Looked.{memory_refusal}

-- a chip whose record is accepted and reads back, in memory of the right lengths
pub record Ready (k : Chip) : Type 0 where
  pub fits : Fits k.flash
  pub sound : Sound k.flash
  pub array_long : length k.array ≡ array_bytes
  pub charges_long : length k.charges ≡ array_cells

-- What is known of memory that was opened, and of the state read from it: the memory is not refused, and it is what the chip in it is written
-- as, which is ready.
pub record Opened (m : Memory) (s : Flash) : Type 0 where
  pub taken : memory_refusal m ≡ 0
  pub chip_is : chip s m.array m.charges ≡ chip_in m
  pub memory_is : m ≡ memory_of (chip_in m)
  pub ready : Ready (chip_in m)

-- ---- a call on it

-- The whole outcome of a call on a chip: its number, its answer, chip and event words as it leaves them, and how many words it gave.
pub record Reply : Type 0 where
  pub number : ℕ
  pub value : ℕ
  pub left : Chip
  pub events : List ℕ
  pub count : ℕ

-- A refusal changes nothing. Words past the count stay.
unfoldable pub reply_by : ℕ → Request → Time → List ℕ → Chip → Reply
reply_by zero q now words k =
    let done = step (call_of q) now k in
    record {
      number = 0;
      value = answer (call_of q) now k;
      left = done.chip;
      events = sets words 0 done.events;
      count = length done.events;
    }
reply_by (suc n) q now words k = record { number = suc n; value = 0; left = k; events = words; count = 0 }

unfoldable pub reply : Request → Time → List ℕ → Chip → Reply
reply q now words k = reply_by (call_refusal q now (length words) k.flash) q now words k

-- by what a function answers and leaves
abbrev pub replied : Result Answer Refusal → List ℕ → Chip → Reply
replied result events k = record { number = told result; value = value_of result; left = k; events = events; count = count_of result }

-- the outcome over the memory of the chip
abbrev pub written : Reply → Outcome
written r = record { number = r.number; value = r.value; memory = memory_of r.left; events = r.events; count = r.count }
