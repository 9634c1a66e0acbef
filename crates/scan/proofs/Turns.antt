-- The first refused field of a run, found by going through it: as long as nothing was refused, what the whole run answers is what its rest
-- answers; at the first refused field it is that field's number. So for limited bytes and the pages.
-- Assumes nothing.
use Rattle.std.proofs.Common.{◌≡◌, ℕ, zero, suc, ◌+◌, ◌-◌, ◌*◌, ◌/◌, ◌%◌, ◌<◌, ◌≤◌, Bool, true, false, cond, ◌&&◌, eqb, ltb, leb, List, ◌∷◌, length, drop, sym, refl, ◌∙◌, add-one, arith, drop_of_length-le, drop-cons, ltb-false, ltb-true, le-ltb, lt-ltb, le-leb, leb-false}
use Rattle.std.specs.Prelude.{Result, Ok, Err, OnOk}
use borrow.Author.Tests.{lt-leb}
use Rattle.std.proofs.lemmas.Bool.{and_parts}
use Rattle.lists.specs.Lists.{at}
use Rattle.cell.specs.Cell.{page_bytes, page_cells, pages, array_bytes}
use Rattle.flash.specs.Chip.{no_pages}
use Rattle.rows.specs.Rows.{word}
use Rattle.layout.specs.Layout.{placed}
use Rattle.refusal.specs.declared.Refusal.{Refusal}
use Rattle.refusal.specs.Refusal.{number}
use Rattle.refusal.proofs.Outcomes.{number-some}
use Rattle.snapshot.specs.Asked.{first}
use Rattle.snapshot.specs.Places.{pages_place, page_length, page_at, count_in, cells_number, address_number, with_page, pages_number, pages_index, end_number, bytes_number, state_length, state_number, count_number, scan_number}

-- ---- the first of two: r is the number of the one before

pub first-none : (n : ℕ) → first n 0 ≡ n
first-none zero = refl
first-none (suc n) = refl

pub first_passes : {m r : ℕ} (n : ℕ) → r ≡ m → r ≡ 0 → first m n ≡ n
first_passes n e z = rw (sym e ∙ z)

pub first_stops : {m r : ℕ} (n : ℕ) → r ≡ m → (r ≡ 0 → ⊥) → r ≡ first m n
first_stops {m = zero} n e z = absurd (z e)
first_stops {m = suc m} n e z = e

-- what is so after and_parts outcomes
pub on_ok : {A E : Type 0} {P : Type 0} (outcome : Result A E) → P → OnOk outcome P
on_ok (Ok value) p = p
on_ok (Err e) p = tt

-- the number of a refusal isn't 0
pub refused : (r : Refusal) → number r ≡ 0 → ⊥
refused r e = omega (arith, number-some r)

-- ---- what is not refused

pub not-nine : (t : Bool) (n : ℕ) → cond t 9 n ≡ 0 → (t ≡ false) × (n ≡ 0)
not-nine true n e = absurd (omega arith)
not-nine false n e = (refl, e)

not-ten : (t : Bool) → ◌≡◌ {A = ℕ} (cond t 0 10) 0 → t ≡ true
not-ten true e = refl
not-ten false e = absurd (omega arith)

-- a page's address is of one of the pages
pub placed-page : (address : ℕ) → placed address page_bytes ≡ true → address / page_bytes < pages
placed-page address e =
    let l = ltb-true address array_bytes (and_parts (eqb (address % page_bytes) 0) (ltb address array_bytes) e).1 in
    omega arith

pub address-fits : (index xs : List ℕ) (place : ℕ) → address_number index xs place ≡ 0
    → (place + 2 ≤ length xs) × (word 2 xs place / page_bytes < pages)
unfolding address_number
address-fits index xs place e =
    let w = word 2 xs place in
    let free = eqb (at index (w / page_bytes)) 0 in
    let n = not-nine (ltb (length xs) (place + 2)) (cond (placed w page_bytes && free) 0 10) e in
    let p = and_parts (placed w page_bytes) free (not-ten (placed w page_bytes && free) n.1) in
    (ltb-false (length xs) (place + 2) n.0, placed-page w p.0)

-- ---- limited bytes, from limit i on

pub limit-next : (limits xs : List ℕ) (i place : ℕ) → i < length limits → bytes_number (drop i limits) xs place
    ≡ cond (leb (length xs) place) 9 (cond (leb (at xs place) (at limits i)) (bytes_number (drop (suc i) limits) xs (suc place)) 10)
unfolding bytes_number
limit-next limits xs i place h = rw (drop-cons limits i 0 h)

pub no-limits : (limits xs : List ℕ) (i place : ℕ) → length limits ≤ i → bytes_number (drop i limits) xs place ≡ 0
unfolding bytes_number
no-limits limits xs i place h = rw (drop_of_length-le limits h)

pub byte-there : (most : ℕ) (limits xs : List ℕ) (place : ℕ) → bytes_number (most ∷ limits) xs place ≡ 0 → place < length xs
unfolding bytes_number
byte-there most limits xs place e = leb-false (length xs) place (not-nine (leb (length xs) place) _ e).0

-- ---- the bytes before a place, there or not

pub end-passed : (xs : List ℕ) (end : ℕ) → 0 ≡ end_number xs end → end ≤ length xs
end-passed xs end e = ltb-false (length xs) end (not-nine (ltb (length xs) end) 0 (sym e)).0

pub end-missing : (xs : List ℕ) (end r : ℕ) → r ≡ end_number xs end → (r ≡ 0 → ⊥) → (r ≡ 9) × (length xs < end)
end-missing xs end r e z = by (ltb (length xs) end) refl
  where
    by : (t : Bool) → ltb (length xs) end ≡ t → (r ≡ 9) × (length xs < end)
    by true d = (e ∙ rw d, ltb-true (length xs) end d)
    by false d = absurd (z (e ∙ rw d))

-- ---- the pages, after those of so many slots

pub record Pages (count : ℕ) (index₀ xs index : List ℕ) (place slot : ℕ) : Type 0 where
  pub there : place ≡ pages_place + slot * page_length
  pub long : length index ≡ length index₀
  pub rest : pages_number count 0 index₀ xs pages_place ≡ pages_number (count - slot) slot index xs place
  pub index_rest : pages_index count 0 index₀ xs pages_place ≡ pages_index (count - slot) slot index xs place

pages-next : (n s : ℕ) (index xs : List ℕ) (place : ℕ) → pages_number (suc n) s index xs place
    ≡ first (first (address_number index xs place) (cells_number page_cells xs (place + 2)))
    (pages_number n (suc s) (with_page index s xs place) xs (place + page_length))
unfolding pages_number
pages-next n s index xs place = refl

index-next : (n s : ℕ) (index xs : List ℕ) (place : ℕ)
    → pages_index (suc n) s index xs place ≡ pages_index n (suc s) (with_page index s xs place) xs (place + page_length)
unfolding pages_index
index-next n s index xs place = refl

no-pages : (s : ℕ) (index xs : List ℕ) (place : ℕ) → (pages_number 0 s index xs place ≡ 0) × (pages_index 0 s index xs place ≡ index)
unfolding pages_number pages_index
no-pages s index xs place = (refl, refl)

module _ {count : ℕ} {index₀ xs index : List ℕ} {place slot : ℕ} (p : Pages count index₀ xs index place slot) where
  pub pages-through : count ≤ slot
      → (0 ≡ pages_number count 0 index₀ xs pages_place) × (index ≡ pages_index count 0 index₀ xs pages_place)
  pages-through h =
      let e : count - slot ≡ 0 = omega arith in
      let n = no-pages slot index xs place in
      (sym (p.rest ∙ rw e n.0), sym (p.index_rest ∙ rw e n.1))

  module _ (h : slot < count) where
    left : count - slot ≡ suc (count - suc slot)
    left = omega arith

    pages-step : pages_number count 0 index₀ xs pages_place
        ≡ first (first (address_number index xs place) (cells_number page_cells xs (place + 2)))
        (pages_number (count - suc slot) (suc slot) (with_page index slot xs place) xs (place + page_length))
    pages-step = p.rest ∙ rw left (pages-next (count - suc slot) slot index xs place)

    pub address-bad : {n : ℕ} → n ≡ address_number index xs place → (n ≡ 0 → ⊥) → n ≡ pages_number count 0 index₀ xs pages_place
    address-bad e z = rw pages-step (first_stops _ (first_stops _ e z) z)

    module _ (fine : address_number index xs place ≡ 0) where
      pub cells-bad : {n : ℕ} → n ≡ cells_number page_cells xs (place + 2) → (n ≡ 0 → ⊥) → n ≡ pages_number count 0 index₀ xs pages_place
      cells-bad e z = rw (pages-step, fine) (first_stops _ e z)

      pub page-good : {after : List ℕ} {end : ℕ} → cells_number page_cells xs (place + 2) ≡ 0 → after ≡ with_page index slot xs place
          → length after ≡ length index → end ≡ place + page_length → Pages count index₀ xs after end (slot + 1)
      page-good e w l t =
          record {
            there = omega arith;
            long = l ∙ p.long;
            rest = pages-step ∙ rw (fine, e, w, t, add-one slot);
            index_rest = p.index_rest ∙ rw (left, index-next (count - suc slot) slot index xs place, w, t, add-one slot);
          }

-- ---- the state and the whole

pub state-small : (xs : List ℕ) (place : ℕ) → state_length xs place ≤ 274
unfolding state_length
state-small xs place = by (eqb (at xs (place + 251)) 1)
  where
    by : (t : Bool) → cond t 274 256 ≤ 274
    by true = omega arith
    by false = omega arith

pub place-small : (n : ℕ) → n ≤ pages → page_at n < 2147483648
unfolding page_at
place-small n h = omega arith

-- a count that is not refused
pub counted : (xs index : List ℕ) (count : ℕ) → pages_place ≤ length xs → count ≡ count_in xs → count ≤ pages → index ≡ no_pages pages
    → scan_number xs ≡ first (pages_number count 0 index xs pages_place) (state_number xs (page_at count))
unfolding scan_number count_number
counted xs index count h e l i = rw (le-ltb _ _ h, ← e, le-leb _ _ l, i)

-- ---- no count of pages, or more pages than there are

pub no-count : (xs : List ℕ) (r : ℕ) → r ≡ end_number xs pages_place → (r ≡ 0 → ⊥) → r ≡ scan_number xs
unfolding scan_number count_number
no-count xs r e z = let m = end-missing xs pages_place r e z in rw (lt-ltb _ _ m.1) m.0

pub too-many : (xs : List ℕ) (k : ℕ) → pages_place ≤ length xs → k ≡ count_in xs → pages < k → 10 ≡ scan_number xs
unfolding scan_number count_number
too-many xs k there e h = rw (le-ltb _ _ there, ← e, lt-leb _ _ h)

pub ruleset many = (too-many)
