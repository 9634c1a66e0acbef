-- The loop of an exposure, page by page: a page is charged from its own stored bytes, which no earlier page has changed, and then sensed
-- from its slot; after the last page index, array, charges and events are those of the exposure. Assumes nothing.
use mathlib.Core.Path.{◌≡◌, refl, ap, sym, ◌∙◌}
use mathlib.Core.Logic.{◌≢◌}
use mathlib.Core.List.{List}
use Prim.Native.Nat.{ℕ, zero, suc, ◌+◌, ◌-◌, ◌*◌, ◌/◌, ◌≤◌, ◌<◌}
use native.Mathlib.Nat.{add-zero, zero-add}
use native.Mathlib.Numerals.{add-one}
use native.Mathlib.Omega.{arith}
use lib.ListN.{length}
use lib.Seq.{sets, get_or-set_same}
use Rattle.cell.specs.declared.Sense.TheVariants.{Normal}
use Rattle.lists.specs.Lists.{at}
use Rattle.cell.specs.Cell.{sensed_byte}
use Rattle.cell.proofs.Sensed.{sensed_byte-same}
use Rattle.registers.specs.declared.Pulse.{Pulse}
use Rattle.settle.specs.Pages.{Cells, cell_at, opened, slot_for, on_page, on_pages}
use Rattle.settle.specs.Settling.{charged, ruled, normal_byte, spanned, expose, changes, Left}
use Rattle.settle.specs.Views.{cells_of}
use Rattle.settle.proofs.Slots.{Slots, SlotsOf, opened-set}
use Rattle.settle.proofs.Page.{slot_next, slot-own}
use Rattle.settle.proofs.Range.{pages-slots, pages-array}
use Rattle.settle.proofs.Loop.{pages-snoc, page-own, page-next, page-kept, slot-cell, changes-same}
use Rattle.settle.proofs.Place.{spanned-high, resensed-spanned}
use Rattle.settle.proofs.Expose.{pages-sensed}
use Rattle.settle.proofs.Stored.{Stored, stored-none, stored-further}

-- the page of turn i charged
abbrev pub turn : Pulse → List ℕ → ℕ → ℕ → List ℕ → List ℕ → List ℕ → Cells
turn pulse latch l i index array charges = on_page (charged pulse latch l) (pulse.first + i) (cells_of index array charges)

-- ---- nothing to do

pub left-same : (c : Cells) (lent : List ℕ) → Left c (changes 0 c.array c.array) lent c.index c.array c.charges lent 0
left-same c lent =
    record {
      index_is = refl;
      array_is = refl;
      charges_is = refl;
      events_are = rw (changes-same 0 c.array);
      count_is = rw (changes-same 0 c.array);
    }

-- ---- the next slot after one more page

module _ (c : Cells) (inv : SlotsOf c) (p : ℕ) (h : p < 384) (f : ℕ → ℕ → ℕ) where
  -- a page that took the next slot had none
  next-moves : slot_for c.index p ≡ opened c.index → opened (on_page f p c).index ≡ suc (opened c.index)
  next-moves d = by (at c.index p) refl
    where
      by : (v : ℕ) → at c.index p ≡ v → opened (on_page f p c).index ≡ suc (opened c.index)
      by zero e = ap opened (page-next f c p e) ∙ opened-set c.index p (opened c.index) (omega (arith, inv.pages)) e
      by (suc s) e = absurd (omega (arith, inv.below p s e, slot-own c.index p s e))

  -- a page that did not has its own
  next-stays : slot_for c.index p ≢ opened c.index → opened (on_page f p c).index ≡ opened c.index
  next-stays n = by (at c.index p) refl
    where
      by : (v : ℕ) → at c.index p ≡ v → opened (on_page f p c).index ≡ opened c.index
      by zero e = absurd (n (slot_next c.index p e))
      by (suc s) e = ap opened (page-kept f c p s e)

-- ---- the turns

-- after i pages, from c
pub record Turned (pulse : Pulse) (latch : List ℕ) (l : ℕ) (c : Cells) (lent : List ℕ) (i : ℕ)
    (index array charges events : List ℕ) (next count : ℕ) : Type 0 where
  pub slots : SlotsOf c
  pub index_is : index ≡ (on_pages (charged pulse latch l) i pulse.first c).index
  pub charges_is : charges ≡ (on_pages (charged pulse latch l) i pulse.first c).charges
  pub next_is : next ≡ opened index
  pub stored : Stored c.array lent 0 (pulse.first * 128) (normal_byte (λ j. ruled pulse latch l j (cell_at c j))) ((pulse.first + i) * 128) array events count

pub turned_none : (pulse : Pulse) (latch : List ℕ) (l : ℕ) (c : Cells) (lent : List ℕ) (next : ℕ) → SlotsOf c → next ≡ opened c.index
    → Turned pulse latch l c lent 0 c.index c.array c.charges lent next 0
unfolding on_pages
turned_none pulse latch l c lent next inv e =
    record {
      slots = inv;
      index_is = refl;
      charges_is = refl;
      next_is = e;
      stored = rw (add-zero pulse.first) (stored-none c.array lent 0 (pulse.first * 128) _);
    }

-- after the last page
pub turned-all : (pulse : Pulse) (latch : List ℕ) (l : ℕ) (c : Cells) (lent : List ℕ)
    {index array charges events : List ℕ} {next count : ℕ} → l ≢ 0
    → Turned pulse latch l c lent pulse.pages index array charges events next count
    → Left (expose pulse latch l c) (changes 0 c.array (expose pulse latch l c).array) lent index array charges events count
unfolding expose
turned-all pulse latch zero c lent n t = absurd (n refl)
turned-all pulse latch (suc l) c lent n t =
    let e = t.stored.array_is ∙ sym (resensed-spanned pulse (λ i. ruled pulse latch (suc l) i (cell_at c i)) c.array) in
    record {
      index_is = t.index_is;
      array_is = e;
      charges_is = t.charges_is;
      events_are = rw (← e) t.stored.events_are;
      count_is = rw (← e) (t.stored.count_is ∙ zero-add _);
    }

module _
    {pulse : Pulse} {latch : List ℕ} {l : ℕ} {c : Cells} {lent : List ℕ} {i : ℕ} {index array charges events : List ℕ} {next count : ℕ}
    (t : Turned pulse latch l c lent i index array charges events next count) where
  f : ℕ → ℕ → ℕ
  f = charged pulse latch l

  -- the page of the turn, and the cells before it
  p : ℕ
  p = pulse.first + i

  before : Cells
  before = on_pages f i pulse.first c

  pub turned-slots : Slots index charges
  turned-slots = rw (t.index_is, t.charges_is) (pages-slots (charged pulse latch l) i pulse.first c t.slots)

  module _ (inside : i < pulse.pages) (fits : pulse.first + pulse.pages ≤ 384) where
    -- the page's own bytes are as they were at first
    own : (a : ℕ) → a / 128 ≡ p → at array a ≡ at before.array a
    unfolding p before f
    own a e =
        ap (λ (l : List ℕ). at l a) t.stored.array_is ∙ spanned-high (pulse.first * 128) (p * 128) _ c.array a (omega arith)
        ∙ sym (ap (λ (l : List ℕ). at l a) (pages-array f i pulse.first c))

    turned-index : (turn pulse latch l i index array charges).index
        ≡ (on_pages (charged pulse latch l) (suc i) pulse.first c).index
    unfolding on_page
    turned-index = rw (pages-snoc (charged pulse latch l) i pulse.first c, t.index_is)

    turned-charges : (turn pulse latch l i index array charges).charges
        ≡ (on_pages (charged pulse latch l) (suc i) pulse.first c).charges
    unfolding p before f
    turned-charges = rw (pages-snoc f i pulse.first c, t.index_is, t.charges_is) (page-own (cells_of before.index array before.charges) before.array f p own)

    module _ (slot : ℕ) (at_slot : slot ≡ slot_for index (pulse.first + i)) where
      pub turned-moves : slot ≡ next → next + 1 ≡ opened (turn pulse latch l i index array charges).index
      turned-moves e =
          let m = next-moves (cells_of index array charges) turned-slots (pulse.first + i) (omega arith) (charged pulse latch l) (sym at_slot ∙ e ∙ t.next_is) in
          omega (arith, t.next_is)

      pub turned-stays : slot ≢ next → next ≡ opened (turn pulse latch l i index array charges).index
      turned-stays n =
          let m = next-stays (cells_of index array charges) turned-slots (pulse.first + i) (omega arith) (charged pulse latch l) (λ e. n (at_slot ∙ e ∙ sym t.next_is)) in
          omega (arith, t.next_is)

      -- one more page
      pub turned_more : {index' array' charges' events' : List ℕ} {next' count' : ℕ} → length c.array ≡ 49152
          → index' ≡ (turn pulse latch l i index array charges).index
          → charges' ≡ (turn pulse latch l i index array charges).charges
          → next' ≡ opened (turn pulse latch l i index array charges).index
          → array'
          ≡ spanned ((pulse.first + i) * 128) ((pulse.first + i) * 128 + 128)
          (λ a. sensed_byte Normal a (λ k. at charges' (slot * 1024 + (8 * (a - (pulse.first + i) * 128) + k)))) array
          → events' ≡ sets events count (changes 0 array array') → count' ≡ count + length (changes 0 array array')
          → Turned pulse latch l c lent (i + 1) index' array' charges' events' next' count'
      unfolding p before f normal_byte on_page
      turned_more {index'} {array'} {charges'} {events'} {next'} {count'} long ei ec en ea ee ek =
          let e : (pulse.first + (i + 1)) * 128 ≡ p * 128 + 128 = omega arith in
          record {
            slots = t.slots;
            index_is = ei ∙ turned-index ∙ rw (add-one i);
            charges_is = ec ∙ turned-charges ∙ rw (add-one i);
            next_is = en ∙ ap opened (sym ei);
            stored =
                rw e (stored-further t.stored (p * 128 + 128) _ array' events' count' (omega arith) (omega arith) (omega arith)
                values ea ee ek);
          }
        where
          entry : at (on_pages f (suc i) pulse.first c).index p ≡ suc slot
          entry =
              rw (pages-snoc f i pulse.first c, at_slot, t.index_is)
              (get_or-set_same before.index p _ 0 (omega (arith, (pages-slots f i pulse.first c t.slots).pages)))

          values : (a : ℕ) → p * 128 ≤ a → a < p * 128 + 128
              → sensed_byte Normal a (λ k. at charges' (slot * 1024 + (8 * (a - p * 128) + k))) ≡ normal_byte (λ j. ruled pulse latch l j (cell_at c j)) a
          values a h k =
              sensed_byte-same Normal a _ (λ b. cell_at (on_pages f (suc i) pulse.first c) (8 * a + b))
              (λ b g. let m : p * 1024 + (8 * (a - p * 128) + b) ≡ 8 * a + b = omega arith in
              rw (ec ∙ turned-charges, ← m) (sym (slot-cell (on_pages f (suc i) pulse.first c) p slot entry (8 * (a - p * 128) + b) (omega arith))))
              ∙ pages-sensed pulse latch l c t.slots (suc i) inside a (omega arith) (omega arith) (omega arith)
