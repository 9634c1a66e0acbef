-- Charges in a row, and the first of them that is refused. One over FULL is told by the highest bit of a number worked out from it, and
-- one of many by the highest bit of all those numbers together, since among charges that are all there the first refusal and any refusal
-- are the same 10. A row that is cut has the number of those that are there, or else 9. A page goes by quarters.
-- Assumes nothing.
use Rattle.std.proofs.Common.{◌≡◌, ℕ, zero, suc, ◌+◌, ◌-◌, ◌*◌, ◌%◌, ◌^◌, ◌<◌, ◌≤◌, ◌/◌, min, Bool, true, false, cond, ltb, leb, List, [], length, take, drop, get_or, sym, ap, refl, ◌∙◌, add-zero, add-suc, mul-zero, arith, ltb-false, ltb-true, le-ltb, lt-ltb, leb-false, leb-true}
use lib.Bits.{bit_and, bit_or, and_le_l, and_le_r, or_lt, or_add_and}
use native.Mathlib.Decide.{ℕ_discrete}
use native.Mathlib.Nat.{add_assoc}
use Rattle.std.specs.Int.{byte_worth, sum_through}
use Rattle.std.specs.Simd.{first_chunks}
use lib.Seq.{get_or-take, get_or-drop, length-take-le}
use Rattle.std.proofs.lemmas.List.{length-drop}
use Rattle.cell.specs.Cell.{FULL, page_cells}
use Rattle.lists.proofs.Chunks.{chunk-at}
use Rattle.rows.proofs.Bytes.{worth}
use Rattle.rows.specs.Rows.{word}
use Rattle.snapshot.specs.Asked.{first}
use Rattle.snapshot.specs.Places.{cell_number, cells_number}
use Rattle.snapshot.proofs.Fixed.{first-assoc, first-zero}
use Rattle.scan.proofs.Turns.{first-none, first_passes, first_stops, not-nine}

-- ---- the highest bit

-- r is FULL less x, wrapped: one of them is below 2^63, unless x is over FULL
pub over-top : (x r : ℕ) → x < 2 ^ 64 → r < 2 ^ 64 → (r + x) % 2 ^ 64 ≡ FULL → ltb (bit_and x r) (2 ^ 63) ≡ leb x FULL
over-top x r h k e = by (leb x FULL) refl
  where
    by : (t : Bool) → leb x FULL ≡ t → ltb (bit_and x r) (2 ^ 63) ≡ t
    by true d = lt-ltb (bit_and x r) (2 ^ 63) (omega (arith, leb-true x FULL d, and_le_l x r, and_le_r x r))
    by false d = le-ltb (bit_and x r) (2 ^ 63) (omega (arith, leb-false x FULL d, or_add_and x r, or_lt 64 x r h k))

-- 10 for the highest bit
abbrev pub ten : ℕ → ℕ
ten a = cond (ltb a (2 ^ 63)) 0 10

first-ten : (a b : ℕ) → first (ten a) (ten b) ≡ ten (bit_or a b)
first-ten a b = by (ltb a (2 ^ 63)) (ltb b (2 ^ 63)) refl refl
  where
    big : 2 ^ 63 ≤ bit_or a b → 10 ≡ ten (bit_or a b)
    big h = rw (le-ltb (bit_or a b) (2 ^ 63) h)

    by : (p q : Bool) → ltb a (2 ^ 63) ≡ p → ltb b (2 ^ 63) ≡ q → first (cond p 0 10) (cond q 0 10) ≡ ten (bit_or a b)
    by false q d e = big (omega (arith, ltb-false a (2 ^ 63) d, or_add_and a b, and_le_r a b))
    by true false d e = big (omega (arith, ltb-false b (2 ^ 63) e, or_add_and a b, and_le_l a b))
    by true true d e = rw (lt-ltb (bit_or a b) (2 ^ 63) (or_lt 63 a b (ltb-true a (2 ^ 63) d) (ltb-true b (2 ^ 63) e)))

-- ---- charges in a row

cells-next : (n : ℕ) (xs : List ℕ) (place : ℕ) → cells_number (suc n) xs place ≡ first (cell_number xs place) (cells_number n xs (place + 8))
unfolding cells_number
cells-next n xs place = refl

no_cells : (xs : List ℕ) (place : ℕ) → cells_number 0 xs place ≡ 0
unfolding cells_number
no_cells xs place = refl

-- n charges, and then m more
cells-split : (m n : ℕ) (xs : List ℕ) (place : ℕ) → cells_number (m + n) xs place ≡ first (cells_number n xs place) (cells_number m xs (place + 8 * n))
cells-split m zero xs place = rw (no_cells, add-zero m, mul-zero, add-zero)
cells-split m (suc n) xs place =
    let e : place + 8 * suc n ≡ place + 8 + 8 * n = omega arith in
    rw (e, add-suc m n, cells-next (m + n), cells-next n, cells-split m n xs (place + 8), first-assoc)

cell-there : (xs : List ℕ) (place : ℕ) → cell_number xs place ≡ 0 → place + 8 ≤ length xs
unfolding cell_number
cell-there xs place e = ltb-false _ _ (not-nine (ltb (length xs) (place + 8)) _ e).0

cells-there : (n : ℕ) (xs : List ℕ) (place : ℕ) → place ≤ length xs → cells_number n xs place ≡ 0 → place + 8 * n ≤ length xs
cells-there zero xs place h e = omega arith
cells-there (suc n) xs place h e =
    let z = first-zero (cell_number xs place) (cells_number n xs (place + 8)) (sym (cells-next n xs place) ∙ e) in
    let k = cells-there n xs (place + 8) (cell-there xs place z.0) z.1 in
    omega arith

cell-ten : (xs : List ℕ) (place b : ℕ) → place + 8 ≤ length xs → ltb b (2 ^ 63) ≡ leb (word 8 xs place) FULL → cell_number xs place ≡ ten b
unfolding cell_number
cell-ten xs place b h e = rw (le-ltb _ _ h, ← e)

-- only n of them are there
pub cells_cut : (n count : ℕ) (xs : List ℕ) (place : ℕ) (t : Bool) → n < count → length xs < place + 8 * n + 8
    → cells_number n xs place ≡ cond t 0 10 → cells_number count xs place ≡ cond t 9 10
unfolding cell_number
cells_cut n count xs place t h k e =
    let d : count ≡ suc (count - suc n) + n = omega arith in
    rw (d, cells-split (suc (count - suc n)) n xs place, e, cells-next, lt-ltb _ _ k) (by t)
  where
    by : (t : Bool) → first (cond t 0 10) 9 ≡ cond t 9 10
    by true = refl
    by false = refl

-- so many of them as are there
module _ (n count : ℕ) (xs : List ℕ) (place : ℕ) (h : place ≤ length xs) (e : n ≡ min ((length xs - place) / 8) count) where
  pub one-over : cells_number n xs place ≡ 10 → 10 ≡ cells_number count xs place
  one-over d = by (ℕ_discrete n count)
    where
      by : Dec (n ≡ count) → 10 ≡ cells_number count xs place
      by (yes f) = sym (rw f at d)
      by (no f) = sym (cells_cut n count xs place false (omega arith) (omega arith) d)

  pub end-early : cells_number n xs place ≡ 0 → (length xs - place) / 8 < count → 9 ≡ cells_number count xs place
  end-early d l = sym (cells_cut n count xs place true (omega arith) (omega arith) d)

  pub all-there : cells_number n xs place ≡ 0 → count ≤ (length xs - place) / 8 → 0 ≡ cells_number count xs place
  all-there d l = let f : n ≡ count = omega arith in sym (rw f at d)

pub ruleset cut = (one-over, end-early, all-there)

-- ---- so many charges that are there, after i of them: all has the highest bit if one of the i is over FULL

pub record Looked (count : ℕ) (xs : List ℕ) (start all i : ℕ) : Type 0 where
  pub most : i ≤ count
  pub rest : cells_number count xs start ≡ first (ten all) (cells_number (count - i) xs (start + 8 * i))

module _ {count : ℕ} {xs : List ℕ} {start all i : ℕ} (l : Looked count xs start all i) where
  pub looked-through : count ≤ i → cells_number count xs start ≡ ten all
  looked-through h = let e : count - i ≡ 0 = omega arith in l.rest ∙ rw (e, no_cells) (first-none (ten all))

  pub looked-more : (b : ℕ) → i < count → start + 8 * count ≤ length xs → ltb b (2 ^ 63) ≡ leb (word 8 xs (start + 8 * i)) FULL
      → Looked count xs start (bit_or all b) (i + 1)
  looked-more b h k e =
      let n : count - i ≡ suc (count - (i + 1)) = omega arith in
      let p : start + 8 * (i + 1) ≡ start + 8 * i + 8 = omega arith in
      let c : cell_number xs (start + 8 * i) ≡ ten b = cell-ten xs (start + 8 * i) b (omega arith) e in
      record { most = omega arith; rest = l.rest ∙ rw (n, p, cells-next (count - (i + 1)), c, ← first-assoc, first-ten) }

-- the charges cut out of their row are as many, and are those that stand there
module _ (xs : List ℕ) (place count : ℕ) (charges : List (List ℕ)) (there : place + 8 * count ≤ length xs) where
  abbrev rest : List ℕ
  rest = take (length xs - place) (drop place xs)

  long : length rest ≡ length xs - place
  long = length-take-le (length xs - place) (drop place xs) (omega (arith, length-drop place xs))

  pub as-many : length charges ≡ length rest / 8 → length (take count charges) ≡ count
  as-many e = length-take-le count charges (omega (arith, e, long))

  pub charge-there : charges ≡ first_chunks 8 (length rest / 8) rest → (i : ℕ) → i < count
      → sum_through (λ k. byte_worth k (get_or (get_or (take count charges) i []) k 0)) 7 ≡ word 8 xs (place + 8 * i)
  charge-there e i h = worth xs (get_or (take count charges) i []) (place + 8 * i) 7 (λ k l.
      let same : i * 8 + k ≡ 8 * i + k = omega arith in
      ap (λ c. get_or c k 0) (get_or-take count charges i [] h ∙ ap (λ cs. get_or cs i []) e)
      ∙ chunk-at 8 (length rest / 8) i rest (omega (arith, long)) k (omega arith)
      ∙ get_or-take (length xs - place) (drop place xs) (i * 8 + k) 0 (omega arith)
      ∙ get_or-drop place xs (i * 8 + k) 0
      ∙ rw (same, add_assoc))

-- ---- a page by quarters, after so many of them

pub record Cells (xs : List ℕ) (start place quarter : ℕ) : Type 0 where
  pub there : place ≡ start + 2048 * quarter
  pub fits : place ≤ length xs
  pub rest : cells_number page_cells xs start ≡ cells_number (page_cells - 256 * quarter) xs place

module _ {xs : List ℕ} {start place i : ℕ} (c : Cells xs start place i) where
  pub cells-through : 4 ≤ i → cells_number page_cells xs start ≡ 0
  cells-through h = let e : page_cells - 256 * i ≡ 0 = omega arith in c.rest ∙ rw e (no_cells xs place)

  module _ (h : i < 4) where
    quarter : cells_number page_cells xs start ≡ first (cells_number 256 xs place) (cells_number (page_cells - 256 * (i + 1)) xs (place + 2048))
    quarter =
        let e : page_cells - 256 * i ≡ page_cells - 256 * (i + 1) + 256 = omega arith in
        c.rest ∙ rw e (cells-split (page_cells - 256 * (i + 1)) 256 xs place)

    pub quarter-good : cells_number 256 xs place ≡ 0 → Cells xs start (place + 2048) (i + 1)
    quarter-good z =
        record { there = omega arith; fits = cells-there 256 xs place c.fits z; rest = quarter ∙ first_passes _ (sym z) refl }

    pub quarter-bad : {n : ℕ} → n ≡ cells_number 256 xs place → (n ≡ 0 → ⊥) → n ≡ cells_number page_cells xs start
    quarter-bad e z = rw quarter (first_stops _ e z)
