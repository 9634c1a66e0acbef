-- What the function that loads a snapshot's charges needs of places. The charges of one page more go after those of the pages before it, so
-- a loop over the pages stores them one after the other. Assumes nothing.
use mathlib.Core.Path.{◌≡◌, ap, sym, ◌∙◌}
use mathlib.Core.List.{List, ◌++◌, append_assoc, append-nil}
use Prim.Native.Nat.{ℕ, zero, suc, ◌+◌, ◌-◌, ◌*◌, ◌≤◌}
use native.Mathlib.Nat.{zero-add}
use native.Mathlib.Numerals.{add-one}
use native.Mathlib.Omega.{arith}
use lib.ListN.{length, length-append}
use lib.Seq.{sets}
use borrow.Rule.Slice.PartMut.{put_mid, mid_of, mid_len}
use Rattle.cell.specs.Cell.{page_cells}
use Rattle.lists.proofs.Stores.{sets-append, put-sets}
use Rattle.rows.specs.Rows.{row}
use Rattle.rows.proofs.Packed.{length-row}
use Rattle.snapshot.specs.Places.{pages_place, page_length, page_at, pages_cells}

-- ---- the charges of pages

length-cells : (n : ℕ) (xs : List ℕ) (place : ℕ) → length (pages_cells n xs place) ≡ n * page_cells
unfolding pages_cells
length-cells zero xs place = omega arith
length-cells (suc n) xs place =
    length-append (row page_cells 8 (place + 2) xs) (pages_cells n xs (place + page_length))
    ∙ rw (length-row page_cells 8 (place + 2) xs, length-cells n xs (place + page_length)) (omega arith)

-- one page more, the last
cells-snoc : (n : ℕ) (xs : List ℕ) (place : ℕ)
    → pages_cells (suc n) xs place ≡ pages_cells n xs place ++ row page_cells 8 (place + n * page_length + 2) xs
unfolding pages_cells
cells-snoc zero xs place =
    let e : place + 0 * page_length + 2 ≡ place + 2 = omega arith in
    rw e (append-nil (row page_cells 8 (place + 2) xs))
cells-snoc (suc n) xs place =
    let e : place + suc n * page_length + 2 ≡ place + page_length + n * page_length + 2 = omega arith in
    rw e (ap (λ l. row page_cells 8 (place + 2) xs ++ l) (cells-snoc n xs (place + page_length))
    ∙ sym (append_assoc (row page_cells 8 (place + 2) xs) (pages_cells n xs (place + page_length)) _))

-- ---- the charges lent for a page

-- a turn of the loop: the next slot's charges, lent and put back
pub load-turn : (slot : ℕ) (xs l₀ l ys : List ℕ) (p : ℕ) → l ≡ sets l₀ 0 (pages_cells slot xs pages_place) → slot * 1024 + 1024 ≤ length l
    → p ≡ page_at slot → ys ≡ row (length (mid_of (slot * 1024) (slot * 1024 + 1024 - slot * 1024) l)) 8 (p + 2) xs
    → put_mid (slot * 1024) (slot * 1024 + 1024 - slot * 1024) l ys ≡ sets l₀ 0 (pages_cells (slot + 1) xs pages_place)
unfolding page_at
load-turn slot xs l₀ l ys p e h f g =
    let a = slot * 1024 in
    let c = pages_cells slot xs pages_place in
    let r = row page_cells 8 (pages_place + slot * page_length + 2) xs in
    let d : a + 1024 - a ≡ 1024 = omega arith in
    let m : length (mid_of a (a + 1024 - a) l) ≡ 1024 = mid_len a (a + 1024) l h ∙ d in
    let y : ys ≡ r = g ∙ rw (m, f) in
    let z : 0 + length c ≡ a = zero-add (length c) ∙ length-cells slot xs pages_place in
    rw (d, y, put-sets a 1024 l r (length-row page_cells 8 _ xs) h, e, add-one slot, cells-snoc slot xs pages_place)
    (sym (rw z at (sets-append l₀ 0 c r)))
