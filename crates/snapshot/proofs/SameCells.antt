-- Cells that differ in nothing but slots not in use: each cell has the same charge, and settling leaves them so. A page takes its own slot
-- or the next one, and writes all of it from charges that are the same; so no old number comes into use. Assumes nothing.
use mathlib.Core.Path.{◌≡◌, refl, sym, ap, ap₂, ◌∙◌, fun_ext}
use mathlib.Core.Logic.{◌≢◌}
use mathlib.Core.List.{List}
use Prim.Native.Nat.{ℕ, zero, suc, ◌+◌, ◌*◌, ◌/◌, ◌%◌, ◌<◌}
use native.Mathlib.Omega.{arith}
use native.Mathlib.Decide.{dec_lt, ℕ_discrete}
use lib.ListN.{length}
use lib.Seq.{set_out}
use Rattle.std.specs.Prelude.{Option, Some, None}
use Rattle.time.specs.declared.Time.{Time}
use Rattle.lists.specs.Lists.{at}
use Rattle.cell.specs.Cell.{on_slot}
use Rattle.cell.proofs.OnSlot.{length-on_slot, get_or-on_slot-inside, get_or-on_slot-outside}
use Rattle.registers.specs.declared.Registers.{Registers}
use Rattle.registers.specs.declared.Pulse.{Pulse}
use Rattle.settle.specs.Pages.{Cells, held, cell_at, opened, slot_for, on_page, on_pages}
use Rattle.settle.specs.Settling.{charged, ruled, resensed, exposure, expose, settled_by, four_sensed, sensed_by}
use Rattle.settle.proofs.Slots.{SlotsOf, opened-le, opened-set}
use Rattle.settle.proofs.Page.{slot_next, page-slots}
use Rattle.settle.proofs.Loop.{page-kept, page-next}

pub record Same (c c' : Cells) : Type 0 where
  pub index_is : c'.index ≡ c.index
  pub array_is : c'.array ≡ c.array
  pub long : length c'.charges ≡ length c.charges
  pub used : (i : ℕ) → i < opened c.index * 1024 → at c'.charges i ≡ at c.charges i

-- each cell has the same charge
pub same-charges : {c c' : Cells} → SlotsOf c → Same c c' → cell_at c' ≡ cell_at c
unfolding cell_at held
same-charges {c} {c'} inv s =
    fun_ext (λ i. ap₂ (λ index array. held (at index (i / 1024)) array c'.charges i) s.index_is s.array_is
    ∙ by i (at c.index (i / 1024)) refl)
  where
    by : (i v : ℕ) → at c.index (i / 1024) ≡ v → held v c.array c'.charges i ≡ held v c.array c.charges i
    by i zero e = refl
    by i (suc k) e = s.used (k * 1024 + i % 1024) (omega (arith, inv.below (i / 1024) k e))

-- ---- one page

module _ (c : Cells) (inv : SlotsOf c) (f : ℕ → ℕ → ℕ) (p : ℕ) where
  -- what is in use then, but for the page's slot, was in use before
  was-used : (i : ℕ) → i < opened (on_page f p c).index * 1024 → i / 1024 ≢ slot_for c.index p → i < opened c.index * 1024
  was-used i h n = by (dec_lt p 384) (at c.index p) refl
    where
      by : Dec (p < 384) → (v : ℕ) → at c.index p ≡ v → i < opened c.index * 1024
      by d (suc s) e = rw (page-kept f c p s e) at h
      by (yes l) zero e =
          let o = opened-set c.index p (opened c.index) (omega (arith, inv.pages)) e in
          omega (arith, rw (page-next f c p e, o) at h, n, slot_next c.index p e)
      by (no l) zero e =
          rw (page-next f c p e, set_out c.index p (suc (opened c.index)) (omega (arith, inv.pages))) at h

  same-page : {c' : Cells} → Same c c' → Same (on_page f p c) (on_page f p c')
  unfolding on_page
  same-page {c'} s =
      record {
        index_is = ap (λ x. (on_page f p (record c { index = x })).index) s.index_is;
        array_is = s.array_is;
        long = length-on_slot _ _ c'.charges ∙ s.long ∙ sym (length-on_slot _ _ c.charges);
        used = λ i h.
            ap₂ (λ x q. at (on_slot (slot_for x p) (λ j _. f (p * 1024 + j) (q (p * 1024 + j))) c'.charges) i) s.index_is (same-charges inv s)
            ∙ by i h (ℕ_discrete (i / 1024) slot);
      }
    where
      slot : ℕ
      slot = slot_for c.index p

      new : ℕ → ℕ → ℕ
      new j _ = f (p * 1024 + j) (cell_at c (p * 1024 + j))

      by : (i : ℕ) → i < opened (on_page f p c).index * 1024 → Dec (i / 1024 ≡ slot)
          → at (on_slot slot new c'.charges) i ≡ at (on_slot slot new c.charges) i
      by i h (yes e) =
          let n = page-slots c inv p f in
          let l : i < length c.charges = omega (arith, h, opened-le (on_page f p c).index, n.pages, inv.room) in
          let m : slot * 1024 + i % 1024 ≡ i = omega arith in
          let at_new : (qs : List ℕ) → i < length qs → at (on_slot slot new qs) i ≡ new (i % 1024) 0 =
          λ qs k. rw m at (get_or-on_slot-inside slot new qs (i % 1024) (omega arith) (omega (arith, m, k))) in
          at_new c'.charges (omega (arith, l, s.long)) ∙ sym (at_new c.charges l)
      by i h (no n) =
          get_or-on_slot-outside slot new c'.charges i n ∙ s.used i (was-used i h n) ∙ sym (get_or-on_slot-outside slot new c.charges i n)

same-pages : (f : ℕ → ℕ → ℕ) (n p : ℕ) {c c' : Cells} → SlotsOf c → Same c c' → Same (on_pages f n p c) (on_pages f n p c')
unfolding on_pages
same-pages f zero p inv s = s
same-pages f (suc n) p {c} inv s = same-pages f n (suc p) (page-slots c inv p f) (same-page c inv f p s)

-- ---- settling

same-exposed : (p : Pulse) (latch : List ℕ) (l : ℕ) {c c' : Cells} → SlotsOf c → Same c c' → Same (expose p latch l c) (expose p latch l c')
unfolding expose
same-exposed p latch zero inv s = s
same-exposed p latch (suc l) inv s =
    let t = same-pages (charged p latch (suc l)) p.pages p.first inv s in
    record {
      index_is = t.index_is;
      array_is = ap₂ (λ q xs. resensed p (λ i. ruled p latch (suc l) i (q i)) xs) (same-charges inv s) s.array_is;
      long = t.long;
      used = t.used;
    }

pub same-settled : (o : Option Pulse) (latch : List ℕ) (since now : Time) {c c' : Cells} → SlotsOf c → Same c c'
    → Same (settled_by o latch since now c) (settled_by o latch since now c')
unfolding settled_by
same-settled None latch since now inv s = s
same-settled (Some p) latch since now inv s = same-exposed p latch (exposure p since now) inv s

-- the bytes that a settle senses
pub same-sensed : (r : Registers) (now : Time) (old : List ℕ) {c c' : Cells} → SlotsOf c → Same c c' → sensed_by r now c' old ≡ sensed_by r now c old
unfolding sensed_by four_sensed
same-sensed r now old inv s = rw (same-charges inv s)
