-- The eight worked instants of document 01 as one group, one field a letter.
-- Assumes nothing.
use Rattle.std.specs.Prelude.{ℕ, ◌+◌, ◌-◌, ◌<◌, ◌≡◌, true, List, [], ◌∷◌, length, replicate}
use Rattle.time.specs.declared.Time.{Time}
use Rattle.time.specs.Raw.{raw, instant, after}
use Rattle.cell.specs.declared.Sense.TheVariants.{Normal, ProgramVerify, EraseVerify}
use Rattle.cell.specs.declared.Direction.TheVariants.{Program, Erase}
use Rattle.lists.specs.Lists.{at}
use Rattle.cell.specs.Cell.{FULL, array_bytes, array_cells, class_of, limit_of, exposed}
use Rattle.control.specs.Bits.{FENR, FLMCR1, EBR1, SWE, has}
use Rattle.control.specs.Blocks.{erase_range}
use Rattle.registers.specs.declared.Registers.{Registers}
use Rattle.registers.specs.Access.{write_register}
use Rattle.settle.specs.Settling.{word}
use Rattle.lent.specs.declared.Request.{Request}
use Rattle.lent.specs.declared.Request.TheVariants.{WriteRegister, Write8}
use Rattle.ledger.specs.Lists.{Asked, new_memory, events_of}

-- an instant of n microseconds and l raw units
abbrev pub moment : ℕ → ℕ → Time
moment n l = instant (raw (after (instant 0) n) + l)

-- a call at a moment, lent a word for each byte of a page and one more
abbrev pub asking : Request → ℕ → ℕ → Asked
asking q n l = record { request = q; time = moment n l; lent = replicate 129 0 }

-- Bit 0 of 80 hex is latched 0, and its page is exposed for l raw units from 60 µs on, past the setup's 52; then P drops.
abbrev pub programming : ℕ → List Asked
programming l =
    asking (WriteRegister FENR 0x80) 0 0
    ∷ asking (WriteRegister FLMCR1 0x40) 0 0
    ∷ asking (Write8 0x80 0xFE) 2 0
    ∷ asking (WriteRegister FLMCR1 0x50) 2 0
    ∷ asking (WriteRegister FLMCR1 0x51) 60 0
    ∷ asking (WriteRegister FLMCR1 0x50) 60 l
    ∷ []

pub record Worked : Type 0 where
  -- class of cells 0, 1, 7, 16: 0, 13, 11, 1
  pub a : (class_of 0 ≡ 0) × (class_of 1 ≡ 13) × (class_of 7 ≡ 11) × (class_of 16 ≡ 1)
  -- normal limit, class 0
  pub b : limit_of Normal 0 ≡ 3332315058476564154
  -- program verify, class 0
  pub c : limit_of ProgramVerify 0 ≡ 6664630116953128309
  -- erase verify, class 15 and class 0
  pub d : (limit_of EraseVerify 15 ≡ 756604737398243326) × (limit_of EraseVerify 0 ≡ 0)
  -- L = 129127208515966861 programs 0 to FULL exactly: a unit less leaves 100 of it
  pub e : (exposed Program 0 129127208515966861 0 ≡ FULL) × (exposed Program 0 129127208515966860 0 ≡ FULL - 100)
  -- erasing FULL for 1844674407370955157 leaves 1, one unit more leaves 0
  pub f : (latched : ℕ) → (exposed Erase latched 1844674407370955157 FULL ≡ 1) × (exposed Erase latched 1844674407370955158 FULL ≡ 0)
  -- erase write 3 stores 0, 64 stores 64 and selects nothing
  pub g : (now : Time) (r : Registers) → r.enabled ≡ true → has r.control SWE ≡ true
      → ((write_register EBR1 3 now r).erase ≡ 0) × ((write_register EBR1 64 now r).erase ≡ 64) × ((erase_range 64).pages ≡ 0)
  -- A fresh all-FF array, bit 0 of 80 hex latched 0, exposed 33323150584765642: the byte event, then completed; one unit less: only
  -- the second.
  pub h : (firmware charges : List ℕ) → length firmware ≡ array_bytes → ((x : ℕ) → x < array_bytes → at firmware x ≡ 0xFF) → length charges ≡ array_cells
      → (events_of (programming 33323150584765642) (new_memory firmware charges) ≡ word 1 0x80 0xFE ∷ word 2 0x80 0x80 ∷ [])
      × (events_of (programming 33323150584765641) (new_memory firmware charges) ≡ word 2 0x80 0x80 ∷ [])
