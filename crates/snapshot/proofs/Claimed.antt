-- What is claimed of snapshots. The contents of a whole memory's snapshot are good, so that by the format's law they read back; the charge
-- pages give back the page index, and the state is valid but for its erase register and the time. What is read and accepted is good, so that
-- its charge pages and their index give each other back. Assumes nothing.
use mathlib.Core.Path.{◌≡◌, refl, sym, ap, ◌∙◌}
use mathlib.Core.Bool.{true, false, cond, not, ◌&&◌, and-false, true≢false}
use mathlib.Core.List.{List, [], ◌∷◌, ◌++◌, append-nil}
use Prim.Native.Nat.{ℕ, zero, suc, ◌+◌, ◌*◌, ◌≤◌, ◌<◌}
use native.Mathlib.Omega.{arith}
use borrow.Author.Tests.{lt-ltb, ltb-true, ltb-false, le-leb, eq-eqb, not-false}
use lib.Dec.{ltb, leb, lit≤}
use lib.ListN.{length, take, drop, get_or-append}
use lib.Seq.{sets, sets-eq, length-sets}
use Rattle.std.proofs.lemmas.Bool.{and_parts}
use Rattle.time.specs.declared.Time.{Time}
use Rattle.time.specs.Raw.{raw}
use Rattle.lists.specs.Lists.{at}
use Rattle.cell.specs.Cell.{FULL, page_bytes, pages, array_bytes, array_cells}
use Rattle.control.specs.declared.PendingSense.{PendingSense}
use Rattle.std.specs.Prelude.{Option, Some, None}
use Rattle.settle.specs.Pages.{opened, slots_sound}
use Rattle.settle.proofs.Slots.{Slots, slots-from, opened-le}
use Rattle.flash.specs.declared.Flash.{Flash}
use Rattle.flash.specs.Chip.{no_pages}
use Rattle.layout.specs.Layout.{index_row, record_length, encoded, decoded, placed, accepted, control_clear}
use Rattle.rows.specs.Rows.{Fills}
use Rattle.layout.specs.Whole.{Fits, PendingSound, Sound}
use Rattle.layout.proofs.Back.{decoded-index, decoded-fits, written-reads-back, length-encoded, bytes-encoded}
use Rattle.layout.proofs.Accepted.{placed-says, placed-told, accepted-writes-back, accepted-sound, accepted-encoded}
use Rattle.lent.proofs.Fitted.{Sizes, sizes-fit}
use Rattle.lent.proofs.Lines.{line}
use Rattle.lent.specs.Memory.{Memory, lent, chip_in, misfits, last_second, too_early}
use Rattle.borsh.specs.Borsh.{Read}
use Rattle.std.specs.Prelude.{Ok}
use Rattle.snapshot.specs.Snapshot.{ChargePage, Contents, snapshot, contents_of, snapshot_of, state_fields, state_of, indexed, cells_of, flash_in}
use Rattle.snapshot.specs.Asked.{pending_placed, valid_but_erase, erase_valid, valid, judged, read_refusal, restored, memory_read}
use Rattle.snapshot.specs.Claim.{Bytes, in_use, Whole, Snapshots}
use Rattle.snapshot.proofs.Fixed.{first-zero}
use Rattle.snapshot.proofs.Good.{GoodPages}
use Rattle.snapshot.proofs.Format.{GoodContents, snapshot-lawful, state-good, good-fits}
use Rattle.snapshot.proofs.Length.{length-snapshot}
use Rattle.snapshot.proofs.Index.{length-slot_pages, pages-index, slot-pages-good, cells-of-slots, length-cells, good-index, pages-back}
use Rattle.snapshot.proofs.Places.{judged-got}

-- ---- tests and what they say

abbrev SizesOf : Memory → Type 0
SizesOf m = Sizes (length m.bytes) (length m.array) (length m.charges)

sizes : (m : Memory) → misfits m ≡ false → SizesOf m
sizes m e = sizes-fit (length m.bytes) (length m.array) (length m.charges) e

same-sizes : (m : Memory) → SizesOf m → misfits m ≡ false
same-sizes m s =
    rw (eq-eqb (length m.bytes) record_length s.record_long, eq-eqb (length m.array) array_bytes s.array_long, eq-eqb (length m.charges) array_cells s.charges_long)

-- ---- `validate`

pending-told : (p : Option PendingSense) → PendingSound p → pending_placed p ≡ true
pending-told None h = refl
pending-told (Some p) h = placed-told p.address 4 h.0 h.1

-- a sound state is valid if its erase register is, and the time
valid-told : (t : Time) (s : Flash) → Sound s → valid t s ≡ (leb (raw s.pulse_since) (raw t) && erase_valid s)
unfolding valid valid_but_erase
valid-told t s h =
    rw (
      lt-ltb s.registers.control 128 h.control,
      placed-told s.registers.page page_bytes h.page_aligned h.page_inside,
      pending-told s.registers.verify_pending h.pending,
    )

pending-says : (p : Option PendingSense) → pending_placed p ≡ true → PendingSound p
pending-says None e = tt
pending-says (Some p) e = placed-says p.address 4 e

-- a state that is valid but for its erase register, with a sound index, is sound
valid-sound : (t : Time) (s : Flash) → valid_but_erase t s ≡ true → slots_sound s.indices ≡ true → Sound s
unfolding valid_but_erase
valid-sound t s e h =
    let r = s.registers in
    let c = control_clear r.control in
    let p = placed r.page page_bytes in
    let q = pending_placed r.verify_pending in
    let l3 = and_parts (c && p && q) (leb (raw s.pulse_since) (raw t)) e in
    let l2 = and_parts (c && p) q l3.0 in
    let l1 = and_parts c p l2.0 in
    let page = placed-says r.page page_bytes l1.1 in
    record {
      control = ltb-true r.control 128 l1.0;
      page_aligned = page.0;
      page_inside = page.1;
      pending = pending-says r.verify_pending l2.1;
      slots = h;
    }

-- ---- the charges of good pages

append-full : (xs ys : List ℕ) → ((k : ℕ) → at xs k ≤ FULL) → ((k : ℕ) → at ys k ≤ FULL) → (k : ℕ) → at (xs ++ ys) k ≤ FULL
append-full [] ys f g k = g k
append-full (x ∷ xs) ys f g zero = f 0
append-full (x ∷ xs) ys f g (suc k) = append-full xs ys (λ j. f (suc j)) g k

cells-full : (before ps : List ChargePage) → GoodPages before ps → (k : ℕ) → at (cells_of ps) k ≤ FULL
unfolding cells_of
cells-full before [] h k = lit≤ tt
cells-full before (p ∷ ps) h k = append-full p.1 (cells_of ps) h.0.full (cells-full (p ∷ before) ps h.1) k

stored-full : (ps : List ChargePage) (charges : List ℕ) → GoodPages [] ps → length ps ≤ 384 → length charges ≡ 393216
    → (i : ℕ) → i < length ps * 1024 → at (sets charges 0 (cells_of ps)) i ≤ FULL
stored-full ps charges h few l i k =
    let n = length-cells [] ps h in
    rw (sets-eq (cells_of ps) charges 0 (omega arith), get_or-append (cells_of ps) (drop (0 + length (cells_of ps)) charges) 0 i (omega arith)) (cells-full [] ps h i)

-- ---- written, then read

module _ (m : Memory) (w : Whole m) where
  abbrev s : Flash
  s = decoded m.bytes

  accepts : accepted m.bytes ≡ true
  accepts = not-false (accepted m.bytes) w.reads

  slots : Slots s.indices m.charges
  slots =
      slots-from s.indices m.charges (decoded-index m.bytes) (sizes m w.fits).charges_long
      (accepted-sound m.bytes accepts).slots

  few : opened s.indices ≤ pages
  few = omega (arith, opened-le s.indices, decoded-index m.bytes)

  good : GoodContents (contents_of (chip_in m))
  unfolding contents_of
  good =
      record {
        array = record { long = (sizes m w.fits).array_long; small = w.array_bytes };
        few = rw (length-slot_pages (opened s.indices) 0 s.indices m.charges) few;
        pages = slot-pages-good s.indices m.charges slots w.full;
        state = state-good s (decoded-fits m.bytes w.record_bytes);
      }

  reads-back : snapshot.read (snapshot_of (chip_in m)) ≡ Ok (contents_of (chip_in m), [])
  unfolding snapshot_of
  reads-back = rw (append-nil (snapshot.write (contents_of (chip_in m)))) at (snapshot-lawful.back (contents_of (chip_in m)) good [])

  flash-back : flash_in (contents_of (chip_in m)) ≡ s
  unfolding flash_in contents_of state_of state_fields
  flash-back = rw (pages-index s.indices m.charges slots)

  -- reading it into any memory is judged by its state alone
  refusal-back : (m' : Memory) (t : Time) → misfits m' ≡ false → last_second t ≡ false
      → read_refusal t (snapshot_of (chip_in m)) m' ≡ cond (not (valid t s)) 12 0
  unfolding read_refusal
  refusal-back m' t e f = rw (e, f, reads-back, flash-back)

  early : (t : Time) → too_early t s ≡ false → leb (raw s.pulse_since) (raw t) ≡ true
  early t e = le-leb (raw s.pulse_since) (raw t) (ltb-false (raw t) (raw s.pulse_since) e)

  restores : (m' : Memory) → memory_read 0 (snapshot_of (chip_in m)) m'
      ≡ lent m.bytes m.array (sets m'.charges 0 (take (in_use m) m.charges))
  unfolding contents_of
  restores m' =
      let r = ap (λ (x : Read Contents). restored x m') reads-back in
      let b : encoded (flash_in (contents_of (chip_in m))) ≡ m.bytes = ap encoded flash-back ∙ accepted-writes-back m.bytes (sizes m w.fits).record_long w.record_bytes accepts in
      let c = cells-of-slots s.indices m.charges slots in
      r ∙ (λ i. lent (b i) m.array (sets m'.charges 0 (c i)))

-- ---- read, then written

module _ (v : Contents) (g : GoodContents v) (t : Time) (ok : valid t (flash_in v) ≡ true) (charges : List ℕ) (l : length charges ≡ array_cells) where
  abbrev taken : Memory
  taken = lent (encoded (flash_in v)) v.0 (sets charges 0 (cells_of v.1.0))

  abbrev index : List ℕ
  index = indexed 0 v.1.0 (no_pages pages)

  but_erase : valid_but_erase t (flash_in v) ≡ true
  unfolding valid
  but_erase = (and_parts (valid_but_erase t (flash_in v)) (erase_valid (flash_in v)) ok).0

  index-good : (slots_sound index ≡ true) × (opened index ≡ length v.1.0) × Fills index_row index
  index-good = good-index v.1.0 g.few g.pages

  fits : Fits (flash_in v)
  unfolding flash_in
  fits = good-fits v.1.1 index g.state index-good.2

  state-back : decoded taken.bytes ≡ flash_in v
  state-back = written-reads-back (flash_in v) fits

  index_back : (decoded taken.bytes).indices ≡ index
  unfolding flash_in state_of
  index_back = ap (λ (s : Flash). s.indices) state-back

  contents-back : contents_of (chip_in taken) ≡ v
  unfolding contents_of state_fields state_of flash_in
  contents-back =
      rw (state-back, index-good.1) (ap (λ (ps : List ChargePage). (v.0, (ps, v.1.1))) (pages-back v.1.0 charges g.few g.pages l))

  whole : Whole taken
  unfolding flash_in state_of
  whole =
      record {
        fits = same-sizes taken (record {
          record_long = length-encoded (flash_in v) fits;
          array_long = g.array.long;
          charges_long = length-sets charges 0 (cells_of v.1.0) ∙ l;
        });
        reads = rw (accepted-encoded (flash_in v) fits (valid-sound t (flash_in v) but_erase index-good.0));
        record_bytes = bytes-encoded (flash_in v);
        array_bytes = g.array.small;
        full = λ i h. stored-full v.1.0 charges g.pages g.few l i (rw (index_back, index-good.1) at h);
      }

module _ (bytes : List ℕ) (m : Memory) (t : Time) (b : Bytes bytes) where
  taken-same : (v : Contents) (rest : List ℕ) → snapshot.read bytes ≡ Ok (v, rest) → misfits m ≡ false → judged t (Ok (v, rest)) ≡ 0
      → (snapshot_of (chip_in (restored (Ok (v, rest)) m)) ≡ bytes) × Whole (restored (Ok (v, rest)) m)
  unfolding snapshot_of
  taken-same v [] e f j =
      let x = snapshot-lawful.exact bytes b v [] e in
      let c = (sizes m f).charges_long in
      let ok = not-false (valid t (flash_in v)) (line 11 (not (valid t (flash_in v))) 0 j).0 in
      (ap snapshot.write (contents-back v x.1.0 t ok m.charges c) ∙ sym (x.0 ∙ append-nil (snapshot.write v)), whole v x.1.0 t ok m.charges c)
  taken-same v (y ∷ rest) e f j =
      let left = (line 10 (ltb 0 (suc (length rest))) (cond (not (valid t (flash_in v))) 12 0) j).0 in
      absurd (true≢false (sym (lt-ltb 0 (suc (length rest)) (omega arith)) ∙ left))

  accepted-same : read_refusal t bytes m ≡ 0 → (snapshot_of (chip_in (memory_read 0 bytes m)) ≡ bytes) × Whole (memory_read 0 bytes m)
  unfolding read_refusal
  accepted-same e =
      let l = first-zero (cond (misfits m) 2 (cond (last_second t) 5 0)) (judged t (snapshot.read bytes)) e in
      let f = (line 1 (misfits m) (cond (last_second t) 5 0) l.0).0 in
      let r = judged-got t bytes b l.1 in
      rw r.1.1 (taken-same r.0 r.1.0 r.1.1 f (rw r.1.1 at l.1))

-- ---- the claims

pub snapshots : Snapshots
snapshots =
    record {
      long = λ m w. length-snapshot (chip_in m) (sizes m w.fits).array_long (sizes m w.fits).charges_long (few m w) (decoded-fits m.bytes w.record_bytes);
      back = λ m m' t w e f g h. (
        refusal-back m w m' t e f ∙ rw (valid-told t (decoded m.bytes) (accepted-sound m.bytes (accepts m w)), h, early m w t g),
        restores m w m',
      );
      erase_refused = λ m m' t w e f h.
          refusal-back m w m' t e f ∙ rw (valid-told t (decoded m.bytes) (accepted-sound m.bytes (accepts m w)), h, and-false (leb (raw (decoded m.bytes).pulse_since) (raw t)));
      same = λ bytes m t b e. accepted-same bytes m t b e;
    }
