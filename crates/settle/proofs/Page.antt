-- One page: its cells change by the rule and no others do, since the slot that it takes is its own or no page's, and so the slots stay
-- one-to-one. Assumes nothing.
use mathlib.Core.Path.{◌≡◌, refl, ap, sym, ◌∙◌}
use mathlib.Core.Logic.{◌≢◌, ◌⊎◌, inl, inr}
use mathlib.Core.List.{List}
use Prim.Native.Nat.{ℕ, zero, suc, ◌+◌, ◌*◌, ◌/◌, ◌%◌, ◌<◌}
use native.Mathlib.Nat.{suc_inj}
use native.Mathlib.Omega.{arith}
use native.Mathlib.Decide.{dec_lt, ℕ_discrete}
use lib.ListN.{set, length-set}
use lib.Seq.{get_or-set_same, get_or-set_other, set-get_or, set_out}
use Rattle.lists.specs.Lists.{at}
use Rattle.cell.proofs.OnSlot.{length-on_slot, get_or-on_slot-inside, get_or-on_slot-outside}
use Rattle.settle.specs.Pages.{Cells, held, cell_at, opened, slot_of, slot_for, on_page}
use Rattle.settle.proofs.Slots.{SlotsOf, opened-le, opened-set, next-lt}

-- the next slot, or its own
pub slot_next : (index : List ℕ) (p : ℕ) → at index p ≡ 0 → slot_for index p ≡ opened index
unfolding slot_for slot_of
slot_next index p e = rw e

pub slot-own : (index : List ℕ) (p s : ℕ) → at index p ≡ suc s → slot_for index p ≡ s
unfolding slot_for slot_of
slot-own index p s e = rw e

module _ (c : Cells) (inv : SlotsOf c) (p : ℕ) where
  pub slot_lt : p < 384 → slot_for c.index p < 384
  unfolding slot_for slot_of
  slot_lt h = by (at c.index p) refl
    where
      by : (v : ℕ) → at c.index p ≡ v → slot_of v (opened c.index) < 384
      by zero e = next-lt inv p h e
      by (suc v) e = omega (arith, inv.below p v e, opened-le c.index, inv.pages)

  -- no other page has it
  slot-new : (q k : ℕ) → q ≢ p → at c.index q ≡ suc k → k ≢ slot_for c.index p
  unfolding slot_for slot_of
  slot-new q k n e = by (at c.index p) refl
    where
      by : (v : ℕ) → at c.index p ≡ v → k ≢ slot_of v (opened c.index)
      by zero e' = omega (arith, inv.below q k e)
      by (suc v) e' = λ m. n (inv.one q p v (e ∙ ap suc m) e')

  -- the index after
  grown : List ℕ
  grown = set c.index p (suc (slot_for c.index p))

  -- the same as before, or with one more page opened
  Growth : Type 0
  Growth = (grown ≡ c.index) ⊎ ((p < 384) × (slot_for c.index p ≡ opened c.index) × (opened grown ≡ suc (opened c.index)))

  grows : Growth
  unfolding Growth grown slot_for slot_of
  grows = by (dec_lt p 384) (at c.index p) refl
    where
      by : Dec (p < 384) → (v : ℕ) → at c.index p ≡ v
          → (set c.index p (suc (slot_of v (opened c.index))) ≡ c.index)
          ⊎ ((p < 384) × (slot_of v (opened c.index) ≡ opened c.index) × (opened (set c.index p (suc (slot_of v (opened c.index)))) ≡ suc (opened c.index)))
      by (no h) v e = inl (set_out c.index p _ (omega (arith, inv.pages)))
      by (yes h) zero e = inr (h, refl, opened-set c.index p (opened c.index) (omega (arith, inv.pages)) e)
      by (yes h) (suc v) e = inl (rw (← e) (set-get_or c.index p 0))

  module _ (f : ℕ → ℕ → ℕ) where
    pub page-here : (i : ℕ) → p < 384 → i / 1024 ≡ p → cell_at (on_page f p c) i ≡ f i (cell_at c i)
    unfolding on_page cell_at held
    page-here i h e =
        let s = slot_for c.index p in
        let e1 : at (set c.index p (suc s)) (i / 1024) ≡ suc s = rw e (get_or-set_same c.index p (suc s) 0 (omega (arith, inv.pages))) in
        let e2 : p * 1024 + i % 1024 ≡ i = omega arith in
        ap (λ v. held v c.array (on_page f p c).charges i) e1
        ∙ get_or-on_slot-inside s (λ j q. f (p * 1024 + j) (cell_at c (p * 1024 + j))) c.charges (i % 1024) (omega arith) (omega (arith, slot_lt h, inv.room))
        ∙ ap (λ m. f m (cell_at c m)) e2

    pub page-else : (i : ℕ) → i / 1024 ≢ p → cell_at (on_page f p c) i ≡ cell_at c i
    unfolding on_page cell_at held
    page-else i n =
        ap (λ v. held v c.array (on_page f p c).charges i) (get_or-set_other c.index p (i / 1024) (suc (slot_for c.index p)) 0 n)
        ∙ by (at c.index (i / 1024)) refl
      where
        by : (v : ℕ) → at c.index (i / 1024) ≡ v → held v c.array (on_page f p c).charges i ≡ held v c.array c.charges i
        by zero e = refl
        by (suc k) e =
            let m = slot-new (i / 1024) k n e in
            get_or-on_slot-outside (slot_for c.index p) (λ j q. f (p * 1024 + j) (cell_at c (p * 1024 + j))) c.charges (k * 1024 + i % 1024) (λ d. m (omega arith))

    pub page-slots : SlotsOf (on_page f p c)
    unfolding on_page grown Growth
    page-slots =
        record {
          pages = length-set c.index p _ ∙ inv.pages;
          room = length-on_slot (slot_for c.index p) _ c.charges ∙ inv.room;
          below = below' grows;
          one = one' grows;
        }
      where
        here : p < 384 → (k : ℕ) → at grown p ≡ suc k → k ≡ slot_for c.index p
        here h k e = suc_inj (sym e ∙ get_or-set_same c.index p _ 0 (omega (arith, inv.pages)))

        else' : (q k : ℕ) → q ≢ p → at grown q ≡ suc k → at c.index q ≡ suc k
        else' q k n e = sym (get_or-set_other c.index p q _ 0 n) ∙ e

        below' : Growth → (q k : ℕ) → at grown q ≡ suc k → k < opened grown
        below' (inl e) q k g = rw e (inv.below q k (rw e at g))
        below' (inr g) q k e = by (ℕ_discrete q p)
          where
            by : Dec (q ≡ p) → k < opened grown
            by (yes m) = omega (arith, here g.0 k (rw m at e), g.1, g.2)
            by (no n) = omega (arith, inv.below q k (else' q k n e), g.2)

        one' : Growth → (q r k : ℕ) → at grown q ≡ suc k → at grown r ≡ suc k → q ≡ r
        one' (inl e) q r k g g' = inv.one q r k (rw e at g) (rw e at g')
        one' (inr g) q r k e e' = by (ℕ_discrete q p) (ℕ_discrete r p)
          where
            by : Dec (q ≡ p) → Dec (r ≡ p) → q ≡ r
            by (yes m) (yes n) = m ∙ sym n
            by (yes m) (no n) = absurd (slot-new r k n (else' r k n e') (here g.0 k (rw m at e)))
            by (no m) (yes n) = absurd (slot-new q k m (else' q k m e) (here g.0 k (rw n at e')))
            by (no m) (no n) = inv.one q r k (else' q k m e) (else' r k n e')
