-- The page index and the charge pages of a snapshot determine each other. An index's charge pages, entered in slot order, set its entries
-- one after the other. Charge pages of distinct addresses, entered into an index without pages, each take the next slot and keep it.
-- Assumes nothing.
use mathlib.Core.Path.{◌≡◌, refl, sym, ap, ◌∙◌}
use mathlib.Core.Bool.{true, false, not, ◌||◌}
use mathlib.Core.Logic.{◌≢◌}
use mathlib.Core.List.{List, [], ◌∷◌, ◌++◌, reverse_aux, append_assoc}
use Prim.Native.Nat.{ℕ, zero, suc, ◌+◌, ◌*◌, ◌/◌, ◌≤◌, ◌<◌}
use native.Mathlib.Nat.{mul-div_cancel}
use native.Mathlib.Omega.{arith}
use native.Mathlib.Decide.{dec_lt, ℕ_discrete}
use borrow.Author.Tests.{eqb-true, eq-eqb, ne_eqb}
use lib.ListN.{length, take, drop, set, length-append, length-take, length-drop, length-set, length-reverse, replicate, length-replicate, get_or-eq_default}
use lib.Seq.{sets, sets-eq, ext_get_or, get_or-set_same, get_or-set_other, get_or-take, get_or-drop, take-add, drop-drop, take_at, drop_at}
use lib.Dec.{eqb, eqb-suc-zero}
use Rattle.lists.specs.Lists.{at}
use Rattle.cell.specs.Cell.{FULL, pages, page_bytes}
use Rattle.settle.specs.Pages.{opened, on_page, holds, slots_sound}
use Rattle.settle.proofs.Slots.{Slots, opened-le, opened-set, slots-from, slots-sound}
use Rattle.settle.proofs.Page.{slot_next, page-slots}
use Rattle.flash.proofs.Fresh.{none_open}
use Rattle.flash.specs.Chip.{no_pages}
use Rattle.layout.specs.Layout.{placed, index_row}
use Rattle.layout.proofs.Accepted.{placed-told, placed-says}
use Rattle.rows.specs.Rows.{Fills}
use Rattle.settle.specs.Views as views
use Rattle.snapshot.specs.Snapshot.{ChargePage, addresses, place_of, slot_pages, indexed, cells_of}
use Rattle.snapshot.proofs.Good.{GoodPage, GoodPages}
use Rattle.snapshot.proofs.Pigeon.{place_is, opened-none, slot-has-page}

-- ---- from an index to charge pages and back

pub length-slot_pages : (n s : ℕ) (index charges : List ℕ) → length (slot_pages n s index charges) ≡ n
unfolding slot_pages
length-slot_pages zero s index charges = refl
length-slot_pages (suc n) s index charges = ap suc (length-slot_pages n (suc s) index charges)

-- the charges of n slots from s on
slot-cells : (n s : ℕ) (index charges : List ℕ) → cells_of (slot_pages n s index charges) ≡ take (n * 1024) (drop (s * 1024) charges)
unfolding slot_pages cells_of
slot-cells zero s index charges = refl
slot-cells (suc n) s index charges =
    let l = drop (s * 1024) charges in
    let m : suc n * 1024 ≡ 1024 + n * 1024 = omega arith in
    let e : suc s * 1024 ≡ s * 1024 + 1024 = omega arith in
    rw (slot-cells n (suc s) index charges, m, e, take-add 1024 (n * 1024) l, drop-drop 1024 (s * 1024) charges)

pub length-no_pages : length (no_pages pages) ≡ pages
unfolding no_pages
length-no_pages = length-replicate {A = ℕ} 384 0

module _ (index charges : List ℕ) (inv : Slots index charges) where
  entry-le-opened : (q : ℕ) → at index q ≤ opened index
  entry-le-opened q = by (at index q) refl
    where
      by : (v : ℕ) → at index q ≡ v → v ≤ opened index
      by zero e = omega arith
      by (suc k) e = inv.below q k e

  -- an index that has the entries up to s gets the others
  enters-rest : (n s : ℕ) (early : List ℕ) → s + n ≡ opened index → length early ≡ 384 → ((q : ℕ) → at index q ≤ s → at early q ≡ at index q)
      → indexed s (slot_pages n s index charges) early ≡ index
  unfolding indexed slot_pages
  enters-rest zero s early e l h = ext_get_or 0 early index (l ∙ sym inv.pages) (λ q b. h q (omega (arith, entry-le-opened q)))
  enters-rest (suc n) s early e l h =
      ap (λ r. indexed (suc s) (slot_pages n (suc s) index charges) (set early r (suc s))) (mul-div_cancel p (omega arith))
      ∙ enters-rest n (suc s) (set early p (suc s)) (omega arith) (length-set early p (suc s) ∙ l) (λ q b. by q b (ℕ_discrete q p))
    where
      p : ℕ
      p = place_of (suc s) index

      has : (p < 384) × (at index p ≡ suc s)
      has = slot-has-page index charges inv s (omega arith)

      by : (q : ℕ) → at index q ≤ suc s → Dec (q ≡ p) → at (set early p (suc s)) q ≡ at index q
      by q b (yes m) = rw m (get_or-set_same early p (suc s) 0 (omega (arith, has.0)) ∙ sym has.1)
      by q b (no m) =
          let o : at index q ≢ suc s = λ f. m (inv.one q p s f has.1) in
          get_or-set_other early p q (suc s) 0 m ∙ h q (omega arith)

  pub pages-index : indexed 0 (slot_pages (opened index) 0 index charges) (no_pages pages) ≡ index
  pages-index =
      enters-rest (opened index) 0 (no_pages pages) (omega arith) length-no_pages (λ q b. none_open 384 q ∙ omega arith)

  pub cells-of-slots : cells_of (slot_pages (opened index) 0 index charges) ≡ take (opened index * 1024) charges
  cells-of-slots = slot-cells (opened index) 0 index charges

  -- charge pages before s leave the later ones' addresses free
  rest-good : ((i : ℕ) → i < opened index * 1024 → at charges i ≤ FULL) → (n s : ℕ) (before : List ChargePage) → s + n ≡ opened index
      → ((j : ℕ) → s ≤ j → j < opened index → holds (place_of (suc j) index * 128) (addresses before) ≡ false)
      → GoodPages before (slot_pages n s index charges)
  unfolding slot_pages holds
  rest-good full zero s before e free = tt
  rest-good full (suc n) s before e free = (
    record {
      address = placed-told (place_of (suc s) index * 128) 128 (omega arith) (omega (arith, (has s (omega arith)).0));
      fresh = free s (omega arith) (omega arith);
      long = length-take 1024 (drop (s * 1024) charges) ∙ rw (length-drop (s * 1024) charges) (omega (arith, opened-le index, inv.pages, inv.room));
      full = λ k. by k (dec_lt k 1024);
    },
    rest-good full n (suc s) _ (omega arith) (λ j b l. rw (ne_eqb _ _ (apart j b l)) (free j (omega arith) l)),
  )
    where
      has : (j : ℕ) → j < opened index → (place_of (suc j) index < 384) × (at index (place_of (suc j) index) ≡ suc j)
      has = slot-has-page index charges inv

      by : (k : ℕ) → Dec (k < 1024) → at (take 1024 (drop (s * 1024) charges)) k ≤ FULL
      by k (yes h) = rw (get_or-take 1024 (drop (s * 1024) charges) k 0 h, get_or-drop (s * 1024) charges k 0) (full (s * 1024 + k) (omega arith))
      by k (no h) =
          rw (get_or-eq_default (take 1024 (drop (s * 1024) charges)) 0 {n = k} (omega (arith, length-take 1024 (drop (s * 1024) charges)))) (omega arith)

      apart : (j : ℕ) → suc s ≤ j → j < opened index → place_of (suc j) index * 128 ≡ place_of (suc s) index * 128 → ⊥
      apart j b l d =
          let e : place_of (suc j) index ≡ place_of (suc s) index = omega arith in
          omega (arith, rw e at (has j l).1, (has s (omega arith)).1)

  pub slot-pages-good : ((i : ℕ) → i < opened index * 1024 → at charges i ≤ FULL) → GoodPages [] (slot_pages (opened index) 0 index charges)
  unfolding holds
  slot-pages-good full = rest-good full (opened index) 0 [] (omega arith) (λ j b l. refl)

-- ---- from charge pages to an index and back

-- The index after charge pages, the last of them first: as many slots as pages, and the page of an address has no slot if and only if the
-- address is none of theirs.
pub record Entered (before : List ChargePage) (index : List ℕ) : Type 0 where
  pub long : length index ≡ 384
  pub sound : slots_sound index ≡ true
  pub count : opened index ≡ length before
  pub fresh : (a : ℕ) → placed a page_bytes ≡ true → eqb (at index (a / page_bytes)) 0 ≡ not (holds a (addresses before))

pub entered-free : {before : List ChargePage} {index : List ℕ} {p : ChargePage} → Entered before index → GoodPage before p → at index (p.0 / page_bytes) ≡ 0
entered-free {p = p} n g = eqb-true _ 0 (n.fresh p.0 g.address ∙ ap not g.fresh)

-- slots want a charge store; any does
store : List ℕ
store = replicate 393216 0

store_long : length store ≡ 393216
unfolding store
store_long = length-replicate {A = ℕ} 393216 0

slots-of : {before : List ChargePage} {index : List ℕ} → Entered before index → Slots index store
slots-of {before} {index} n = slots-from index store n.long store_long n.sound

pub entered-none : Entered [] (no_pages pages)
unfolding holds
entered-none =
    record {
      long = length-no_pages;
      sound = slots-sound inv;
      count = opened-none (no_pages pages) shut;
      fresh = λ a l. rw (none_open 384 (a / 128));
    }
  where
    shut : (q k : ℕ) → at (no_pages pages) q ≡ suc k → ⊥
    shut q k e = omega (arith, none_open 384 q)

    inv : Slots (no_pages pages) store
    inv = record { pages = length-no_pages; room = store_long; below = λ q k e. absurd (shut q k e); one = λ q r k e f. absurd (shut q k e) }

-- one more charge page takes the next slot
pub entered-more : {before : List ChargePage} {index : List ℕ} → Entered before index → (p : ChargePage) → GoodPage before p
    → Entered (p ∷ before) (set index (p.0 / page_bytes) (suc (length before)))
unfolding holds on_page
entered-more {before} {index} n p g =
    record {
      long = length-set index q (suc s) ∙ n.long;
      sound = sound_more;
      count = opened-set index q s inside (entered-free n g) ∙ ap suc n.count;
      fresh = λ a l. by a l (ℕ_discrete a p.0);
    }
  where
    s : ℕ
    s = length before

    q : ℕ
    q = p.0 / 128

    inside : q < length index
    inside = omega (arith, placed-says p.0 128 g.address, n.long)

    sound_more : slots_sound (set index q (suc s)) ≡ true
    sound_more = rw (slot_next index q (entered-free n g), n.count) at (slots-sound (page-slots (views.cells_of index [] store) (slots-of n) q (λ i v. v)))

    by : (a : ℕ) → placed a 128 ≡ true → Dec (a ≡ p.0)
        → eqb (at (set index q (suc s)) (a / 128)) 0 ≡ not (eqb a p.0 || holds a (addresses before))
    by a l (yes e) = rw (e, eq-eqb p.0 p.0 refl, get_or-set_same index q (suc s) 0 inside) (eqb-suc-zero s)
    by a l (no e) =
        let m : a / 128 ≢ q = omega (arith, placed-says a 128 l, placed-says p.0 128 g.address) in
        rw (ne_eqb a p.0 e, get_or-set_other index q (a / 128) (suc s) 0 m) (n.fresh a l)

pub entered_all : (ps : List ChargePage) {before : List ChargePage} {index : List ℕ} → Entered before index → GoodPages before ps
    → Entered (reverse_aux ps before) (indexed (length before) ps index)
unfolding indexed
entered_all [] n g = n
entered_all (p ∷ ps) n g = entered_all ps (entered-more n p g.0) g.1

-- a page keeps its slot
entered-keeps : (ps : List ChargePage) {before : List ChargePage} {index : List ℕ} → Entered before index → GoodPages before ps
    → (q k : ℕ) → at index q ≡ suc k → at (indexed (length before) ps index) q ≡ suc k
unfolding indexed
entered-keeps [] n g q k e = e
entered-keeps (p ∷ ps) {before} {index} n g q k e =
    let m : q ≢ p.0 / 128 = λ d. omega (arith, rw d at e, entered-free n g.0) in
    entered-keeps ps (entered-more n p g.0) g.1 q k (get_or-set_other index (p.0 / 128) q (suc (length before)) 0 m ∙ e)

pub good-index : (ps : List ChargePage) → length ps ≤ 384 → GoodPages [] ps
    → (slots_sound (indexed 0 ps (no_pages pages)) ≡ true) × (opened (indexed 0 ps (no_pages pages)) ≡ length ps) × Fills index_row (indexed 0 ps (no_pages pages))
good-index ps l g =
    let n = entered_all ps entered-none g in
    let c = n.count ∙ length-reverse ps in
    let index = indexed 0 ps (no_pages pages) in
    (n.sound, c, record { long = n.long; small = λ k. omega (arith, entry-le-opened index store (slots-of n) k) })

pub length-cells : (before ps : List ChargePage) → GoodPages before ps → length (cells_of ps) ≡ length ps * 1024
unfolding cells_of
length-cells before [] g = refl
length-cells before (p ∷ ps) g = omega (arith, length-append p.1 (cells_of ps), g.0.long, length-cells (p ∷ before) ps g.1)

-- charges that hold the pages' from the next slot on give the pages back
rest_back : (charges rest : List ℕ) (ps : List ChargePage) {before : List ChargePage} {index : List ℕ} → Entered before index → GoodPages before ps
    → drop (length before * 1024) charges ≡ cells_of ps ++ rest
    → slot_pages (length ps) (length before) (indexed (length before) ps index) charges ≡ ps
unfolding slot_pages indexed cells_of
rest_back charges rest [] n g d = refl
rest_back charges rest (p ∷ ps) {before} {index} n g d =
    let s = length before in
    let q = p.0 / 128 in
    let a = placed-says p.0 128 g.0.address in
    let more = entered-more n p g.0 in
    let final = indexed (suc s) ps (set index q (suc s)) in
    let here : at final q ≡ suc s = entered-keeps ps more g.1 q s (get_or-set_same index q (suc s) 0 (omega (arith, n.long))) in
    let place : place_of (suc s) final ≡ q = place_is (slots-of (entered_all ps more g.1)) q s here in
    let address : place_of (suc s) final * 128 ≡ p.0 = omega arith in
    let e : drop (s * 1024) charges ≡ p.1 ++ (cells_of ps ++ rest) = d ∙ append_assoc p.1 (cells_of ps) rest in
    let own : take 1024 (drop (s * 1024) charges) ≡ p.1 = rw e (take_at p.1 (cells_of ps ++ rest) 1024 g.0.long) in
    let m : suc s * 1024 ≡ s * 1024 + 1024 = omega arith in
    let others : drop (suc s * 1024) charges ≡ cells_of ps ++ rest = rw (m, ← (drop-drop 1024 (s * 1024) charges), e) (drop_at p.1 (cells_of ps ++ rest) 1024 g.0.long) in
    same address own (rest_back charges rest ps more g.1 others)
  where
    same : {a : ℕ} {l : List ℕ} {qs : List ChargePage} → a ≡ p.0 → l ≡ p.1 → qs ≡ ps → ◌≡◌ {A = List ChargePage} ((a, l) ∷ qs) (p ∷ ps)
    same e f h = rw (e, f, h)

pub pages-back : (ps : List ChargePage) (charges : List ℕ) → length ps ≤ 384 → GoodPages [] ps → length charges ≡ 393216
    → slot_pages (length ps) 0 (indexed 0 ps (no_pages pages)) (sets charges 0 (cells_of ps)) ≡ ps
pages-back ps charges l g h =
    rest_back (sets charges 0 (cells_of ps)) _ ps entered-none g (sets-eq (cells_of ps) charges 0 (omega (arith, length-cells [] ps g)))
