-- Pages and slots: where a cell's charge stands, and which slot a page takes. Document 01, "Cells and sensing".
-- Assumes nothing.
use Rattle.std.specs.Prelude.{ℕ, zero, suc, ◌+◌, ◌*◌, ◌/◌, ◌%◌, Bool, true, false, not, ◌&&◌, ◌||◌, List, [], ◌∷◌, set, leb, eqb}
use Rattle.lists.specs.Lists.{at}
use Rattle.cell.specs.Cell.{page_cells, bit, first_charge, on_slot}

-- What charges are read from: the page index, the stored array and the charge store. An entry of the index is 0 for a page without
-- charges, and slot + 1 for a page with some.
pub record Cells : Type 0 where
  pub index : List ℕ
  pub array : List ℕ
  pub charges : List ℕ

-- A page without charges has its first ones: each cell 0 where its stored bit is 1, else FULL.
unfoldable pub held : ℕ → List ℕ → List ℕ → ℕ → ℕ
held zero array charges i = first_charge (bit (at array (i / 8)) (i % 8))
held (suc s) array charges i = at charges (s * page_cells + i % page_cells)

-- the charge of cell i
unfoldable pub cell_at : Cells → ℕ → ℕ
cell_at c i = held (at c.index (i / page_cells)) c.array c.charges i

-- the opened pages of an index
unfoldable pub opened : List ℕ → ℕ
opened [] = 0
opened (zero ∷ xs) = opened xs
opened (suc s ∷ xs) = suc (opened xs)

-- the slot of page p: its own, or the next one
unfoldable pub slot_of : ℕ → ℕ → ℕ
slot_of zero next = next
slot_of (suc s) next = s

unfoldable pub slot_for : List ℕ → ℕ → ℕ
slot_for index p = slot_of (at index p) (opened index)

-- Page p takes its slot, and each of its cells i with charge q has f i q there.
unfoldable pub on_page : (ℕ → ℕ → ℕ) → ℕ → Cells → Cells
on_page f p c =
    record c {
      index = set c.index p (suc (slot_for c.index p));
      charges = on_slot (slot_for c.index p) (λ j q. f (p * page_cells + j) (cell_at c (p * page_cells + j))) c.charges;
    }

-- n pages from p on, in rising address
unfoldable pub on_pages : (ℕ → ℕ → ℕ) → ℕ → ℕ → Cells → Cells
on_pages f zero p c = c
on_pages f (suc n) p c = on_pages f n (suc p) (on_page f p c)

-- ---- a sound index: used slots one-to-one with opened pages, in 0 to n-1

unfoldable pub holds : ℕ → List ℕ → Bool
holds x [] = false
holds x (y ∷ ys) = eqb x y || holds x ys

-- no two pages have one slot
unfoldable pub distinct : List ℕ → Bool
distinct [] = true
distinct (x ∷ xs) = (eqb x 0 || not (holds x xs)) && distinct xs

-- no entry passes n
unfoldable pub within : ℕ → List ℕ → Bool
within n [] = true
within n (x ∷ xs) = leb x n && within n xs

unfoldable pub slots_sound : List ℕ → Bool
slots_sound index = within (opened index) index && distinct index
