-- The blocks that the erase register selects, the block of a page, and the pages of a stretch of addresses. Document 01, "Pulses and
-- settling".
-- Assumes nothing.
use Rattle.std.specs.Prelude.{ℕ, zero, suc, ◌+◌, ◌-◌, ◌/◌, ◌^◌, ◌≡◌, Bool, cond, ◌&&◌, List, [], ◌∷◌, leb, ltb, eqb, Option, None, Some}
use Rattle.cell.specs.Cell.{page_bytes, pages}
use Rattle.control.specs.declared.Range.{Range}

-- whether a page lies in a range
abbrev pub covers : Range → ℕ → Bool
covers range page = leb range.first page && ltb page (range.first + range.pages)

-- the pages from one address to another, the last byte
abbrev pub block : ℕ → ℕ → Range
block from to = record { first = from / page_bytes; pages = (to + 1 - from) / page_bytes }

-- The erase register selects one of six ranges or none: 1, 2, 4, 8 the first four 1 KiB blocks; 16 is 1000 to 7FFF hex;
-- 32 is 8000 to BFFF hex: blocks 0 to 5 in this order.
unfoldable pub erase_range : ℕ → Range
erase_range e =
    cond (eqb e 1) (block 0x0000 0x03FF)
    (cond (eqb e 2) (block 0x0400 0x07FF)
    (cond (eqb e 4) (block 0x0800 0x0BFF)
    (cond (eqb e 8) (block 0x0C00 0x0FFF)
    (cond (eqb e 16) (block 0x1000 0x7FFF)
    (cond (eqb e 32) (block 0x8000 0xBFFF)
    (record { first = 0; pages = 0 }))))))

-- the ranges of these erase values stand one after the other, from a page to the array's end
unfoldable pub InOrder : ℕ → List ℕ → Type 0
InOrder page [] = page ≡ pages
InOrder page (e ∷ es) = ((erase_range e).first ≡ page) × InOrder (page + (erase_range e).pages) es

-- There are blocks 0 to 5.
abbrev pub blocks : ℕ
blocks = 6

-- Block b is what bit b of the erase register selects.
abbrev pub block_range : ℕ → Range
block_range b = erase_range (2 ^ b)

-- the first of n blocks from block b on that page p lies in, if one has it
unfoldable pub block_from : ℕ → ℕ → ℕ → Option ℕ
block_from zero b p = None
block_from (suc n) b p = cond (covers (block_range b) p) (Some b) (block_from n (suc b) p)

-- the block of page p, none for a page past the array
unfoldable pub block_of : ℕ → Option ℕ
block_of p = block_from blocks 0 p

-- the pages in which the addresses from one to another lie, both included
unfoldable pub pages_touched : ℕ → ℕ → Range
pages_touched from to = record { first = from / page_bytes; pages = to / page_bytes + 1 - from / page_bytes }
