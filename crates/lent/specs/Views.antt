-- The memory behind what is lent.
-- Assumes nothing.
use Rattle.std.specs.Prelude.{ℕ, ◌≡◌, Result, Ok, Err}
use Rattle.refusal.specs.declared.Refusal.{Refusal}
use Rattle.refusal.specs.Refusal.{number}
use Rattle.flash.specs.declared.held.Held.{Held}
use Rattle.flash.specs.Views.{chip_of}
use Rattle.lent.specs.declared.memory.Lent.{Lent}
use Rattle.lent.specs.declared.memory.LentMut.{LentMut}
use Rattle.lent.specs.Memory.{Memory, lent, chip_in}

abbrev pub memory_in : Lent → Memory
memory_in l = lent l.«record».now l.array.now l.charges.now

-- of what is lent to be changed, at some moment
abbrev pub memory_at : LentMut → Memory
memory_at l = lent l.«record».now l.array.now l.charges.now

-- The same memory is lent as before, whatever it holds.
pub record SameLent (old new : LentMut) : Type 0 where
  pub same_record : new.«record».ghost_name ≡ old.«record».ghost_name
  pub same_array : new.array.ghost_name ≡ old.array.ghost_name
  pub same_charges : new.charges.ghost_name ≡ old.charges.ghost_name

-- Opening gives the chip in memory, or a refusal with a number.
abbrev pub Opens : ℕ → Memory → Result Held Refusal → Type 0
Opens refusal m (Ok held) = (refusal ≡ 0) × (chip_of held ≡ chip_in m)
Opens refusal m (Err r) = number r ≡ refusal
