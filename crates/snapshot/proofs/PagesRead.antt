-- Charge pages read: the format's pages, each refused by those before it, are those that the places give, each refused by the page index.
-- Both agree since an entry of the index is 0 if and only if its page is not among the pages before. Assumes nothing.
use mathlib.Core.Path.{◌≡◌, refl, sym, ap, ◌∙◌}
use mathlib.Core.Bool.{Bool, true, false, cond, not, ◌&&◌, ◌||◌}
use mathlib.Core.List.{List, [], ◌∷◌, ◌++◌}
use Prim.Native.Nat.{ℕ, zero, suc, ◌+◌, ◌*◌, ◌/◌, ◌%◌, ◌<◌}
use native.Mathlib.Nat.{zero-add, add-zero, add_assoc, zero-mul}
use native.Mathlib.Omega.{arith}
use borrow.Author.Tests.{eqb-true, eqb-false, eq-eqb, ne_eqb}
use lib.ListN.{length, set, drop, length-set, replicate, length-replicate, get_or-replicate}
use lib.Seq.{get_or-set_same, get_or-set_other}
use lib.Dec.{ltb, leb, eqb}
use Rattle.lists.specs.Lists.{at}
use Rattle.cell.specs.Cell.{FULL, page_bytes, page_cells, pages}
use Rattle.settle.specs.Pages.{holds}
use Rattle.flash.specs.Chip.{no_pages}
use Rattle.rows.specs.Rows.{word, row}
use Rattle.layout.specs.Layout.{placed}
use Rattle.borsh.specs.Borsh.{read_all, array, vec}
use Rattle.snapshot.specs.Snapshot.{ChargePage, addresses, charge, charge_page, indexed, cells_of}
use Rattle.snapshot.specs.Asked.{first}
use Rattle.snapshot.specs.Places.{count_place, pages_place, page_length, page_at, count_in, count_number, cell_number, cells_number, address_number, with_page, pages_number, pages_index, end_number, pages_cells}
use Rattle.layout.proofs.Accepted.{placed-says}
use Rattle.snapshot.proofs.Fixed.{tell, next-tell, tell-map, first-zero, first-tests, Reads, int-reads, only-reads, then-reads, array-reads}

-- ---- charges

module _ (xs : List ℕ) (base : ℕ) where
  charge-reads : (a : ℕ) → Reads xs base charge a (cell_number xs (base + a)) (word 8 xs (base + a)) (a + 8)
  unfolding charge cell_number
  charge-reads a =
      rw (add_assoc base a 8, ← (first-tests (ltb (length xs) (base + (a + 8))) (leb (word 8 xs (base + a)) FULL)))
      (only-reads (λ q. leb q FULL) (int-reads xs base 8 a (omega arith)))

  cells-read : (n a : ℕ) → Reads xs base (array n charge) a (cells_number n xs (base + a)) (row n 8 (base + a) xs) (a + n * 8)
  unfolding cells_number
  cells-read =
      array-reads 8 (λ n a. cells_number n xs (base + a)) charge-reads (λ a. refl)
      (λ n a. ap (λ p. first (cell_number xs (base + a)) (cells_number n xs p)) (sym (add_assoc base a 8)))

-- ---- the page index and the pages before

-- what `placed` tells of a page's address
-- a page index that has the pages of these addresses and no others
record Holding (index before : List ℕ) : Type 0 where
  long : length index ≡ 384
  free : (a : ℕ) → placed a 128 ≡ true → eqb (at index (a / 128)) 0 ≡ not (holds a before)

holding-none : Holding (no_pages 384) []
unfolding no_pages holds
holding-none =
    record {
      long = length-replicate {A = ℕ} 384 0;
      free = λ a h. eq-eqb (at (replicate 384 0) (a / 128)) 0 (get_or-replicate 384 (a / 128) 0 0 (omega (arith, placed-says a 128 h)));
    }

holding-more : (index before : List ℕ) (w s : ℕ) → Holding index before → placed w 128 ≡ true
    → Holding (set index (w / 128) (suc s)) (w ∷ before)
unfolding holds
holding-more index before w s inv h =
    record { long = length-set index (w / 128) (suc s) ∙ inv.long; free = λ a k. by a k (eqb a w) refl }
  where
    t : (w % 128 ≡ 0) × (w < 49152)
    t = placed-says w 128 h

    by : (a : ℕ) → placed a 128 ≡ true → (b : Bool) → eqb a w ≡ b
        → eqb (at (set index (w / 128) (suc s)) (a / 128)) 0 ≡ not (b || holds a before)
    by a k true e =
        let i : w / 128 < length index = omega (arith, inv.long, t) in
        rw (eqb-true a w e, get_or-set_same index (w / 128) (suc s) 0 i) (ne_eqb (suc s) 0 (λ z. omega arith))
    by a k false e =
        let u = placed-says a 128 k in
        rw (get_or-set_other index (w / 128) (a / 128) (suc s) 0 (λ z. eqb-false a w e (omega (arith, t)))) (inv.free a k)

-- ---- charge pages

-- the page at a place
abbrev page_in : List ℕ → ℕ → ChargePage
page_in xs p = (word 2 xs p, row page_cells 8 (p + 2) xs)

module _ (xs : List ℕ) where
  -- n pages from a place on
  pub pages_at : ℕ → ℕ → List ChargePage
  pages_at zero p = []
  pages_at (suc n) p = page_in xs p ∷ pages_at n (p + page_length)

  address-number : (index before : List ℕ) (p : ℕ) → Holding index before
      → first (end_number xs (p + 2)) (cond (placed (word 2 xs p) 128 && not (holds (word 2 xs p) before)) 0 10) ≡ address_number index xs p
  unfolding address_number
  address-number index before p inv =
      first-tests (ltb (length xs) (p + 2)) (placed w 128 && not (holds w before))
      ∙ ap (λ b. cond (ltb (length xs) (p + 2)) 9 (cond b 0 10)) (by (placed w 128) refl)
    where
      w : ℕ
      w = word 2 xs p

      by : (b : Bool) → placed w 128 ≡ b → (b && not (holds w before)) ≡ (b && eqb (at index (w / 128)) 0)
      by true e = sym (inv.free w e)
      by false e = refl

  -- a page that is not refused has its place
  address-good : (index : List ℕ) (p : ℕ) → address_number index xs p ≡ 0 → placed (word 2 xs p) 128 ≡ true
  unfolding address_number
  address-good index p h = by (ltb (length xs) (p + 2)) (placed (word 2 xs p) 128) h
    where
      by : (a b : Bool) → ◌≡◌ {A = ℕ} (cond a 9 (cond (b && eqb (at index (word 2 xs p / 128)) 0) 0 10)) 0 → b ≡ true
      by true b e = absurd (omega arith)
      by false true e = refl
      by false false e = absurd (omega arith)

  page-reads : (index : List ℕ) (before : List ChargePage) (p : ℕ) → Holding index (addresses before)
      → (charge_page before).read (drop p xs)
      ≡ tell (first (address_number index xs p) (cells_number page_cells xs (p + 2))) (page_in xs p) (drop (p + page_length) xs)
  unfolding charge_page
  page-reads index before p inv =
      let a = only-reads (λ a. placed a page_bytes && not (holds a (addresses before))) (int-reads xs p 2 0 (omega arith)) in
      rw (← (address-number index (addresses before) p inv)) (rw (add-zero p) at (then-reads a (λ e. cells-read xs p page_cells 2)).told)

  pages-read : (n s : ℕ) (index : List ℕ) (before : List ChargePage) (p : ℕ) → Holding index (addresses before)
      → read_all (λ before. (charge_page before).read) n before (drop p xs)
      ≡ tell (pages_number n s index xs p) (pages_at n p) (drop (p + n * page_length) xs)
  unfolding read_all pages_number pages_at with_page
  pages-read zero s index before p inv = rw (zero-mul page_length, add-zero p)
  pages-read (suc n) s index before p inv =
      let page = page_in xs p in
      let k : ℕ = first (address_number index xs p) (cells_number page_cells xs (p + 2)) in
      let more = with_page index s xs p in
      let q = p + page_length in
      let l : p + suc n * page_length ≡ q + n * page_length = omega arith in
      rw (page-reads index before p inv, l)
      (next-tell _ k (pages_number n (suc s) more xs q) page (drop q xs) (page ∷ pages_at n q) (drop (q + n * page_length) xs)
      (λ e. let g = address-good index p (first-zero (address_number index xs p) (cells_number page_cells xs (p + 2)) e).0 in
      let inv = holding-more index (addresses before) (word 2 xs p) s inv g in
      rw (pages-read n (suc s) more (page ∷ before) q inv)
      (tell-map {B = List ChargePage} (λ ps. page ∷ ps) (pages_number n (suc s) more xs q) (pages_at n q) (drop (q + n * page_length) xs))))

  -- the count and its pages
  pub vec-reads : Reads xs 0 (vec pages charge_page) count_place
      (first (count_number xs) (pages_number (count_in xs) 0 (no_pages pages) xs pages_place))
      (pages_at (count_in xs) pages_place) (page_at (count_in xs))
  unfolding vec count_number page_at
  vec-reads =
      let n = count_in xs in
      let t : ℕ = first (cond (ltb (length xs) pages_place) 9 0) (cond (leb n pages) 0 10) in
      record {
        told = rw (
          (only-reads (λ n. leb n pages) (int-reads xs 0 4 count_place (omega arith))).told,
          ← (first-tests (ltb (length xs) pages_place) (leb n pages)),
          zero-add (pages_place + n * page_length),
        ) (next-tell (λ n rest. read_all (λ before. (charge_page before).read) n [] rest) t (pages_number n 0 (no_pages pages) xs pages_place) n
            (drop pages_place xs) (pages_at n pages_place) (drop (pages_place + n * page_length) xs)
            (λ e. pages-read n 0 (no_pages pages) [] pages_place holding-none));
      }

  -- ---- what the pages make

  pub pages-index : (n s : ℕ) (index : List ℕ) (p : ℕ) → indexed s (pages_at n p) index ≡ pages_index n s index xs p
  unfolding indexed pages_at pages_index with_page
  pages-index zero s index p = refl
  pages-index (suc n) s index p = pages-index n (suc s) (with_page index s xs p) (p + page_length)

  pub pages-cells : (n p : ℕ) → cells_of (pages_at n p) ≡ pages_cells n xs p
  unfolding cells_of pages_at pages_cells
  pages-cells zero p = refl
  pages-cells (suc n) p = ap (λ (qs : List ℕ). row page_cells 8 (p + 2) xs ++ qs) (pages-cells n (p + page_length))
