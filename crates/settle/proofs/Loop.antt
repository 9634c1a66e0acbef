-- What a loop that settles in place asks for: one more page, a page that is opened and charged from its own bytes alone, and the events
-- of one more byte. Assumes nothing.
use mathlib.Core.Path.{◌≡◌, refl, ap, sym, ◌∙◌}
use mathlib.Core.Bool.{Bool, true, false, cond}
use mathlib.Core.List.{List, [], ◌∷◌, ◌++◌, append_assoc, append-nil}
use Prim.Native.Nat.{ℕ, zero, suc, ◌+◌, ◌*◌, ◌/◌, ◌%◌, ◌<◌}
use native.Mathlib.Nat.{not-suc-le-zero, le_of_suc-le-suc, add-zero, suc_inj}
use native.Mathlib.Omega.{arith}
use borrow.Author.Tests.{eqb-true, eq-eqb}
use lib.ListN.{length, set, drop}
use lib.Seq.{ext_get_or, set-get_or}
use lib.Dec.{eqb}
use Rattle.lists.specs.Lists.{at}
use Rattle.cell.specs.Cell.{bit, first_charge, page_bit, exposed, on_slot, opened_slot, charged_slot}
use Rattle.lists.proofs.Maps.{get_or-mapi, mapi-same}
use Rattle.cell.proofs.OnSlot.{length-on_slot}
use Rattle.registers.specs.declared.Pulse.{Pulse}
use Rattle.settle.specs.Pages.{Cells, held, cell_at, opened, slot_of, slot_for, on_page, on_pages}
use Rattle.settle.specs.Settling.{charged, change, changes}

-- ---- one more page

pub pages-snoc : (f : ℕ → ℕ → ℕ) (n p : ℕ) (c : Cells) → on_pages f (suc n) p c ≡ on_page f (p + n) (on_pages f n p c)
unfolding on_pages
pages-snoc f zero p c = rw add-zero
pages-snoc f (suc n) p c =
    let e : suc p + n ≡ p + suc n = omega arith in
    pages-snoc f n (suc p) (on_page f p c) ∙ rw e

-- ---- a page is opened and charged from its own bytes alone

-- rules that agree on a slot's charges
pub slot_same : (s : ℕ) (f g : ℕ → ℕ → ℕ) (qs : List ℕ) → ((j : ℕ) → j < 1024 → f j (at qs (s * 1024 + j)) ≡ g j (at qs (s * 1024 + j)))
    → on_slot s f qs ≡ on_slot s g qs
unfolding on_slot
slot_same s f g qs h = mapi-same _ _ qs (λ i l. by i (eqb (i / 1024) s) refl)
  where
    by : (i : ℕ) (b : Bool) → eqb (i / 1024) s ≡ b → cond b (f (i % 1024) (at qs i)) (at qs i) ≡ cond b (g (i % 1024) (at qs i)) (at qs i)
    by i true e = let m : s * 1024 + i % 1024 ≡ i = omega (arith, eqb-true (i / 1024) s e) in rw m at (h (i % 1024) (omega arith))
    by i false e = refl

abbrev pub with_array : List ℕ → Cells → Cells
with_array xs c = record c { array = xs }

module _ (c : Cells) (xs : List ℕ) where
  pub cell-own : (i : ℕ) → at c.array (i / 8) ≡ at xs (i / 8) → cell_at c i ≡ cell_at (with_array xs c) i
  unfolding cell_at held
  cell-own i h = by (at c.index (i / 1024))
    where
      by : (v : ℕ) → held v c.array c.charges i ≡ held v xs c.charges i
      by zero = ap (λ b. first_charge (bit b (i % 8))) h
      by (suc k) = refl

  pub page-own : (f : ℕ → ℕ → ℕ) (p : ℕ) → ((a : ℕ) → a / 128 ≡ p → at c.array a ≡ at xs a)
      → (on_page f p c).charges ≡ (on_page f p (with_array xs c)).charges
  unfolding on_page
  page-own f p h =
      slot_same (slot_for c.index p) _ _ c.charges
      (λ j l. ap (f (p * 1024 + j)) (cell-own (p * 1024 + j) (h ((p * 1024 + j) / 8) (omega arith))))

-- ---- a page by its slot

slot_twice : (s : ℕ) (f g : ℕ → ℕ → ℕ) (qs : List ℕ) → on_slot s f (on_slot s g qs) ≡ on_slot s (λ j q. f j (g j q)) qs
unfolding on_slot
slot_twice s f g qs =
    ext_get_or 0 (on_slot s f (on_slot s g qs)) (on_slot s (λ j q. f j (g j q)) qs)
    (length-on_slot s f (on_slot s g qs) ∙ length-on_slot s g qs ∙ sym (length-on_slot s (λ j q. f j (g j q)) qs))
    (λ i h. let l : i < length qs = omega (arith, length-on_slot s f (on_slot s g qs), length-on_slot s g qs) in
    get_or-mapi _ (on_slot s g qs) i (omega (arith, length-on_slot s g qs))
    ∙ ap (λ q. cond (eqb (i / 1024) s) (f (i % 1024) q) q) (get_or-mapi _ qs i l)
    ∙ by (eqb (i / 1024) s) (i % 1024) (at qs i) ∙ sym (get_or-mapi _ qs i l))
  where
    by : (b : Bool) (j q : ℕ) → cond b (f j (cond b (g j q) q)) (cond b (g j q) q) ≡ cond b (f j (g j q)) q
    by true j q = refl
    by false j q = refl

-- a page with slot s has its charges there
pub slot-cell : (c : Cells) (p s : ℕ) → at c.index p ≡ suc s → (j : ℕ) → j < 1024 → cell_at c (p * 1024 + j) ≡ at c.charges (s * 1024 + j)
unfolding cell_at held
slot-cell c p s e j h =
    let d : (p * 1024 + j) / 1024 ≡ p = omega arith in
    let m : (p * 1024 + j) % 1024 ≡ j = omega arith in
    rw (d, e, m)

-- and one without a slot, its first charges
first_cell : (c : Cells) (p : ℕ) (bytes : List ℕ) → at c.index p ≡ 0 → ((k : ℕ) → k < 128 → at bytes k ≡ at c.array (p * 128 + k))
    → (j : ℕ) → j < 1024 → cell_at c (p * 1024 + j) ≡ first_charge (page_bit bytes j)
unfolding cell_at held page_bit
first_cell c p bytes e same j h =
    let d : (p * 1024 + j) / 1024 ≡ p = omega arith in
    let b : (p * 1024 + j) / 8 ≡ p * 128 + j / 8 = omega arith in
    let m : (p * 1024 + j) % 8 ≡ j % 8 = omega arith in
    rw (d, e, b, m, same (j / 8) (omega arith))

module _ (t : Pulse) (latch : List ℕ) (l : ℕ) (c : Cells) (p : ℕ) where
  -- it is charged there
  pub page-charged : (s : ℕ) → at c.index p ≡ suc s → (on_page (charged t latch l) p c).charges ≡ charged_slot s t.direction latch l c.charges
  unfolding on_page slot_for slot_of charged_slot charged
  page-charged s e =
      rw e (slot_same s _ _ c.charges
      (λ j h. let m : (p * 1024 + j) % 1024 ≡ j = omega arith in rw (m, slot-cell c p s e j h)))

  -- and a page without one is opened in the next slot and charged there
  pub page-opened : (bytes : List ℕ) → at c.index p ≡ 0 → ((k : ℕ) → k < 128 → at bytes k ≡ at c.array (p * 128 + k))
      → (on_page (charged t latch l) p c).charges ≡ charged_slot (opened c.index) t.direction latch l (opened_slot (opened c.index) bytes c.charges)
  unfolding on_page slot_for slot_of charged_slot opened_slot charged
  page-opened bytes e same =
      let s = opened c.index in
      rw e (slot_same s _ _ c.charges
      (λ j h. let m : (p * 1024 + j) % 1024 ≡ j = omega arith in rw (m, first_cell c p bytes e same j h))
      ∙ sym (slot_twice s (λ j q. exposed t.direction (page_bit latch j) l q) (λ j q. first_charge (page_bit bytes j)) c.charges))

pub page-kept : (f : ℕ → ℕ → ℕ) (c : Cells) (p s : ℕ) → at c.index p ≡ suc s → (on_page f p c).index ≡ c.index
unfolding on_page slot_for slot_of
page-kept f c p s e = rw e (rw (← e) (set-get_or c.index p 0))

pub page-next : (f : ℕ → ℕ → ℕ) (c : Cells) (p : ℕ) → at c.index p ≡ 0 → (on_page f p c).index ≡ set c.index p (suc (opened c.index))
unfolding on_page slot_for slot_of
page-next f c p e = rw e

-- ---- events

pub changes-same : (a : ℕ) (xs : List ℕ) → changes a xs xs ≡ []
unfolding changes
changes-same a [] = refl
changes-same a (x ∷ xs) = rw (eq-eqb x x refl) (changes-same (suc a) xs)

pub changes-append : (a : ℕ) (xs xs' ys ys' : List ℕ) → length xs ≡ length ys
    → changes a (xs ++ xs') (ys ++ ys') ≡ changes a xs ys ++ changes (a + length xs) xs' ys'
unfolding changes
changes-append a [] xs' [] ys' h = rw add-zero
changes-append a [] xs' (y ∷ ys) ys' h = absurd (omega arith)
changes-append a (x ∷ xs) xs' [] ys' h = absurd (omega arith)
changes-append a (x ∷ xs) xs' (y ∷ ys) ys' h =
    let e : a + suc (length xs) ≡ suc a + length xs = omega arith in
    rw e (ap (λ r. change (eqb x y) a y ++ r) (changes-append (suc a) xs xs' ys ys' (suc_inj h))
    ∙ sym (append_assoc (change (eqb x y) a y) (changes (suc a) xs ys) (changes (suc a + length xs) xs' ys')))

-- one more byte, in place: m is the array so far, and from k on it is still the array before
pub changes-set : (a : ℕ) (l m : List ℕ) (k v : ℕ) → length l ≡ length m → k < length l → drop k m ≡ drop k l
    → changes a l (set m k v) ≡ changes a l m ++ change (eqb (at l k) v) (a + k) v
unfolding changes
changes-set a [] m k v h g e = absurd (not-suc-le-zero g)
changes-set a (x ∷ xs) [] k v h g e = absurd (omega arith)
changes-set a (x ∷ xs) (y ∷ ys) zero v h g e =
    let e1 : y ≡ x = cc in
    let e2 : ys ≡ xs = cc in
    rw (e1, e2, eq-eqb x x refl, changes-same (suc a) xs, add-zero) (append-nil (change (eqb x v) a v))
changes-set a (x ∷ xs) (y ∷ ys) (suc k) v h g e =
    let e1 : a + suc k ≡ suc a + k = omega arith in
    rw e1 (ap (λ r. change (eqb x y) a y ++ r) (changes-set (suc a) xs ys k v (suc_inj h) (le_of_suc-le-suc g) e)
    ∙ sym (append_assoc (change (eqb x y) a y) (changes (suc a) xs ys) (change (eqb (at xs k) v) (suc a + k) v)))
