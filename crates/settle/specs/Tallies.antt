-- Pulses by block: how many end events of each kind have their first address in it. Document 01, under "Order of checking": kinds 2
-- completed, 3 interrupted. Assumes nothing.
use Rattle.std.specs.Prelude.{ℕ, ◌+◌, ◌-◌, ◌/◌, ◌^◌, min, Bool, false, cond, ◌&&◌, List, [], ◌∷◌, Option, None, Some, eqb}
use Rattle.lists.specs.Lists.{mapi}
use Rattle.cell.specs.Cell.{page_bytes}
use Rattle.control.specs.Blocks.{block_of}
use Rattle.registers.specs.declared.Ending.TheVariants.{Completed, Interrupted}
use Rattle.registers.specs.Calls.{ending_number}
use Rattle.settle.specs.declared.tally.Tally.{Tally}
use Rattle.settle.specs.Words.{kind_in, address_in}

-- whether it is block b that is told
abbrev pub is_block : Option ℕ → ℕ → Bool
is_block None b = false
is_block (Some c) b = eqb c b

-- whether a word is of a kind and its address lies in block b
unfoldable pub ends_there : ℕ → ℕ → ℕ → Bool
ends_there kind b w = eqb (kind_in w) kind && is_block (block_of (address_in w / page_bytes)) b

-- how many of some words are of a kind and have their address in block b
unfoldable pub end_count : ℕ → ℕ → List ℕ → ℕ
end_count kind b [] = 0
end_count kind b (w ∷ ws) = cond (ends_there kind b w) 1 0 + end_count kind b ws

-- a count and n more, as far as 64 bits go
abbrev pub raised : ℕ → ℕ → ℕ
raised count n = count + min n (2 ^ 64 - 1 - count)

-- the counts of the blocks after some words more
unfoldable pub counted : ℕ → List ℕ → List ℕ → List ℕ
counted kind words counts = mapi (λ b count. raised count (end_count kind b words)) 0 counts

-- the tally after some words more: each kind of end event in its own counts
unfoldable pub tallied : Tally → List ℕ → Tally
tallied t words =
    record {
      completed = counted (ending_number Completed) words t.completed;
      interrupted = counted (ending_number Interrupted) words t.interrupted;
    }
