-- Cells: sizes, classes, sensing, and the rule of one cell. Document 01, "Cells and sensing" and "Pulses and settling".
-- Assumes nothing.
use Rattle.std.specs.Prelude.{ℕ, zero, suc, ◌+◌, ◌-◌, ◌*◌, ◌/◌, ◌%◌, ◌^◌, min, List, Bool, cond, ltb, leb, eqb}
use Rattle.std.specs.Int.Bits.{bit_xor}
use Rattle.lists.specs.Lists.{at, mapi, tabulate}
use Rattle.cell.specs.declared.Sense.{Sense}
use Rattle.cell.specs.declared.Sense.TheVariants.{Normal, ProgramVerify, EraseVerify}
use Rattle.cell.specs.declared.Direction.{Direction}
use Rattle.cell.specs.declared.Direction.TheVariants.{Program, Erase}

-- 49,152 bytes, pages of 128 bytes, 8 cells a byte.
abbrev pub array_bytes : ℕ
array_bytes = 49152

abbrev pub page_bytes : ℕ
page_bytes = 128

abbrev pub page_cells : ℕ
page_cells = 1024

abbrev pub array_cells : ℕ
array_cells = 393216

abbrev pub pages : ℕ
pages = 384

abbrev pub FULL : ℕ
FULL = 12912720851596686100

-- ---- classes and sensing

-- Cell i = 8 × address + bit has class ((13i) xor floor(i/16)) mod 16.
unfoldable pub class_of : ℕ → ℕ
class_of i = bit_xor (13 * i) (i / 16) % 16

-- It repeats every 256 cells and is kept as a table of 256 classes.
unfoldable pub class_table : List ℕ
class_table = tabulate class_of 256

-- The limits of a class: normally, under program verify, under erase verify.
unfoldable pub limit_of : Sense → ℕ → ℕ
limit_of Normal c = FULL * (16 + c) / 62
limit_of ProgramVerify c = FULL * (16 + c) / 31
limit_of EraseVerify c = FULL * c / 256

-- A cell of class c with charge q senses 1 below the limit, under erase verify at it too.
unfoldable pub senses : Sense → ℕ → ℕ → Bool
senses Normal c q = ltb q (limit_of Normal c)
senses ProgramVerify c q = ltb q (limit_of ProgramVerify c)
senses EraseVerify c q = leb q (limit_of EraseVerify c)

-- the lowest charge with which it senses 0, and a table of that for 256 cells in a row
unfoldable pub ceiling_of : Sense → ℕ → ℕ
ceiling_of Normal c = limit_of Normal c
ceiling_of ProgramVerify c = limit_of ProgramVerify c
ceiling_of EraseVerify c = limit_of EraseVerify c + 1

unfoldable pub ceiling_table : Sense → List ℕ
ceiling_table m = tabulate (λ i. ceiling_of m (class_of i)) 256

-- what the cell i with charge q senses, as a bit
unfoldable pub sensed_cell : Sense → ℕ → ℕ → ℕ
sensed_cell m i q = cond (senses m (class_of i) q) 1 0

-- bit k of a byte, bit 0 first
abbrev pub bit : ℕ → ℕ → ℕ
bit b k = b / 2 ^ k % 2

-- the number whose lowest n bits are f
unfoldable pub from_bits : ℕ → (ℕ → ℕ) → ℕ
from_bits zero f = 0
from_bits (suc n) f = from_bits n f + 2 ^ n * f n

-- the byte that the cells at address a sense; cell k of the byte has charge q k
unfoldable pub sensed_byte : Sense → ℕ → (ℕ → ℕ) → ℕ
sensed_byte m a q = from_bits 8 (λ k. sensed_cell m (8 * a + k) (q k))

-- A raw unit of exposure adds 100 in programming, and takes 7 in erasing.
abbrev pub rate : Direction → ℕ
rate Program = 100
rate Erase = 7

-- Programming adds to cells whose latch bit is 0, at most FULL; erasing takes from every cell, at least 0.
unfoldable pub moved : Direction → ℕ → ℕ → ℕ → ℕ
moved Program latched amount q = cond (eqb latched 0) (min (q + amount) FULL) q
moved Erase latched amount q = q - amount

-- the rule of one cell: charge q after an exposure of l raw units
unfoldable pub exposed : Direction → ℕ → ℕ → ℕ → ℕ
exposed d latched l q = moved d latched (rate d * l) q

-- A page's first charges: each cell 0 where its stored bit is 1, else FULL.
abbrev pub first_charge : ℕ → ℕ
first_charge stored = cond (eqb stored 1) 0 FULL

-- the bit of cell j in a page's 128 bytes
unfoldable pub page_bit : List ℕ → ℕ → ℕ
page_bit bytes j = bit (at bytes (j / 8)) (j % 8)

-- a page's 1,024 charges: as they first are, and after an exposure
unfoldable pub opened_page : List ℕ → List ℕ → List ℕ
opened_page bytes cells = mapi (λ j q. first_charge (page_bit bytes j)) 0 cells

unfoldable pub charged_page : Direction → List ℕ → ℕ → List ℕ → List ℕ
charged_page d latch l cells = mapi (λ j q. exposed d (page_bit latch j) l q) 0 cells

-- the charge store with slot s changed by a rule: 1,024 cells starting at slot times 1,024
unfoldable pub on_slot : ℕ → (ℕ → ℕ → ℕ) → List ℕ → List ℕ
on_slot s f charges = mapi (λ i q. cond (eqb (i / page_cells) s) (f (i % page_cells) q) q) 0 charges

unfoldable pub opened_slot : ℕ → List ℕ → List ℕ → List ℕ
opened_slot s bytes charges = on_slot s (λ j q. first_charge (page_bit bytes j)) charges

unfoldable pub charged_slot : ℕ → Direction → List ℕ → ℕ → List ℕ → List ℕ
charged_slot s d latch l charges = on_slot s (λ j q. exposed d (page_bit latch j) l q) charges

-- the 128 bytes that the cells of the page at address a sense
unfoldable pub sensed_page : Sense → ℕ → List ℕ → List ℕ → List ℕ
sensed_page m a cells bytes = mapi (λ b x. sensed_byte m (a + b) (λ k. at cells (8 * b + k))) 0 bytes
