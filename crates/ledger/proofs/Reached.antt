-- Calls keep memory whole: no cell is past FULL, and each slot in use is some cell's. A new array is whole, so memory that calls left is,
-- and what is claimed of snapshots is so of it; and call by call, alike memories stay alike. Memory that a snapshot was read into is whole
-- too, so that lists of calls go on from there. Assumes nothing.
use mathlib.Core.Path.{◌≡◌, refl, sym, ◌∙◌, subst}
use mathlib.Core.Bool.{false, not}
use mathlib.Core.List.{List, [], ◌∷◌, ◌++◌}
use Prim.Native.Nat.{ℕ, zero, suc, ◌+◌, ◌*◌, ◌/◌, ◌%◌, ◌≤◌, ◌<◌}
use native.Mathlib.Omega.{arith}
use lib.Dec.{eqb}
use lib.ListN.{length, take}
use lib.Seq.{sets, length-sets, length-take-le, get_or-take}
use Rattle.lists.specs.Lists.{at}
use Rattle.cell.specs.Cell.{bit, FULL}
use Rattle.cell.proofs.Rule.{first_charge-full}
use Rattle.settle.specs.Pages.{Cells, held, cell_at, opened}
use Rattle.settle.proofs.Slots.{SlotsOf, opened-le}
use Rattle.settle.proofs.Loop.{slot-cell}
use Rattle.settle.proofs.Expose.{Full}
use Rattle.flash.specs.Chip.{cells, no_pages, fresh_flash}
use Rattle.layout.specs.Layout.{decoded}
use Rattle.layout.proofs.Back.{decoded-index, written-reads-back}
use Rattle.lent.specs.Memory.{Memory, lent, chip_in, misfits}
use Rattle.lent.proofs.Fitted.{sizes-fit}
use Rattle.snapshot.specs.Snapshot.{place_of}
use Rattle.snapshot.specs.Asked.{memory_read}
use Rattle.snapshot.specs.Claim.{in_use, Whole, Alike}
use Rattle.snapshot.proofs.Pigeon.{slot-has-page}
use Rattle.snapshot.proofs.SameCells.{same-charges}
use Rattle.snapshot.proofs.Alike.{alike-answers}
use Rattle.snapshot.proofs.Claimed.{snapshots}
use Rattle.ledger.specs.Lists.{Asked, asked, Typed, new_memory, memory_after, events_of, heard_of}
use Rattle.ledger.specs.Claim.{Good, Matches}
use Rattle.ledger.specs.Reached.{Reached, ReachedReadsBack, ReadOnward}
use Rattle.ledger.proofs.Kept.{fresh-fits}
use Rattle.ledger.proofs.Order.{order-in, full-lasting}
use Rattle.ledger.proofs.Accepted.{left_at}
use Rattle.ledger.proofs.Carried.{followed}
use Rattle.ledger.proofs.Demand.{onward, new-good, new-matches}

-- ---- calls keep memory whole

module _ (c : Cells) (inv : SlotsOf c) where
  -- a cell's charge is a first one, 0 or FULL, or in use
  used-cells : ((i : ℕ) → i < opened c.index * 1024 → at c.charges i ≤ FULL) → Full c
  unfolding cell_at held
  used-cells f i h = by (at c.index (i / 1024)) refl
    where
      by : (v : ℕ) → at c.index (i / 1024) ≡ v → held v c.array c.charges i ≤ FULL
      by zero e = first_charge-full (bit (at c.array (i / 8)) (i % 8))
      by (suc s) e = f (s * 1024 + i % 1024) (omega (arith, inv.below (i / 1024) s e))

  -- a charge in use is that of some cell
  cells-used : Full c → (i : ℕ) → i < opened c.index * 1024 → at c.charges i ≤ FULL
  cells-used f i h =
      let slot = i / 1024 in
      let p = slot-has-page c.index c.charges inv slot (omega arith) in
      let page = place_of (suc slot) c.index in
      let d : slot * 1024 + i % 1024 ≡ i = omega arith in
      rw (← d, ← (slot-cell c page slot p.1 (i % 1024) (omega arith))) (f (page * 1024 + i % 1024) (omega (arith, p.0)))

whole-good : (m : Memory) → Whole m → Good m
whole-good m w = record { fits = w.fits; reads = w.reads; record_bytes = w.record_bytes; array_bytes = w.array_bytes }

good-slots : (m : Memory) → Good m → SlotsOf (cells (chip_in m))
good-slots m g = (order-in m g).cells.slots

whole-kept : (m : Memory) → Whole m → (qs : List Asked) → Typed qs → Whole (memory_after qs m)
whole-kept m w qs t =
    let g = whole-good m w in
    let f = (followed qs m t g).carried in
    let full = f.lasts Full full-lasting (used-cells (cells (chip_in m)) (good-slots m g) w.full) in
    record {
      fits = f.good.fits;
      reads = f.good.reads;
      record_bytes = f.good.record_bytes;
      array_bytes = f.good.array_bytes;
      full = cells-used (cells (chip_in (memory_after qs m))) (good-slots _ f.good) full;
    }

-- a new array has none in use
new-whole : (firmware charges : List ℕ) → Good (new_memory firmware charges) → Whole (new_memory firmware charges)
unfolding fresh_flash no_pages opened
new-whole firmware charges g =
    record {
      fits = g.fits;
      reads = g.reads;
      record_bytes = g.record_bytes;
      array_bytes = g.array_bytes;
      full = λ i h.
          let z : i < opened (no_pages 384) * 1024 = rw (written-reads-back fresh_flash fresh-fits) at h in
          absurd (omega arith);
    }

reached-whole : (m : Memory) → Reached m → Whole m
reached-whole m r =
    let g = new-good r.firmware r.charges r.firmware_long r.firmware_bytes r.charges_long in
    subst Whole (sym r.left) (whole-kept (new_memory r.firmware r.charges) (new-whole r.firmware r.charges g) r.calls r.typed)

-- ---- read back

-- memory that a snapshot was read into is like the original
read_alike : (m m' : Memory) → Whole m → misfits m' ≡ false
    → Alike m (lent m.bytes m.array (sets m'.charges 0 (take (in_use m) m.charges)))
read_alike m m' w e =
    let a = sizes-fit (length m.bytes) (length m.array) (length m.charges) w.fits in
    let b = sizes-fit (length m'.bytes) (length m'.array) (length m'.charges) e in
    let n : in_use m ≤ length m.charges = omega (arith, opened-le (decoded m.bytes).indices, decoded-index m.bytes, a.charges_long) in
    let l = length-take-le (in_use m) m.charges n in
    record {
      record_is = refl;
      array_is = refl;
      long = length-sets m'.charges 0 (take (in_use m) m.charges) ∙ b.charges_long ∙ sym a.charges_long;
      used = λ i h.
          left_at (take (in_use m) m.charges) m'.charges (omega (arith, b.charges_long, a.charges_long)) i (omega arith)
          ∙ get_or-take (in_use m) m.charges i 0 h;
    }

-- the same charges are sensed over alike memories
alike-matches : (m m' : Memory) → Good m → Alike m m' → Matches m → Matches m'
alike-matches m m' g a n =
    subst Matches (λ i. lent (sym a.record_is i) (sym a.array_is i) m'.charges) (λ b l. rw same (n b l))
  where
    same : cell_at (cells (chip_in (lent m.bytes m.array m'.charges))) ≡ cell_at (cells (chip_in m))
    same = same-charges (good-slots m g) (record { index_is = refl; array_is = refl; long = a.long; used = a.used })

reached-matches : (m : Memory) → Reached m → Matches m
reached-matches m r =
    let new = new_memory r.firmware r.charges in
    let g = new-good r.firmware r.charges r.firmware_long r.firmware_bytes r.charges_long in
    let n = new-matches r.firmware r.charges r.firmware_long r.firmware_bytes r.charges_long in
    subst Matches (sym r.left) (onward.matches new g n r.calls r.typed)

-- ---- the calls that follow

after : (qs : List Asked) (m m' : Memory) → Alike m m'
    → (heard_of qs m' ≡ heard_of qs m) × (events_of qs m' ≡ events_of qs m) × Alike (memory_after qs m) (memory_after qs m')
unfolding heard_of events_of memory_after
after [] m m' a = (refl, refl, a)
after (q ∷ qs) m m' a =
    let o = (alike-answers m m' a).call q.request q.time q.lent in
    let rest = after qs (asked q m).memory (asked q m').memory o.memory in (
      (λ i. record { request = q.request; time = q.time; refused = not (eqb (o.number i) 0) } ∷ rest.0 i),
      (λ i. take (o.count i) (o.events i) ++ rest.1 i),
      rest.2,
    )

pub reached-reads-back : ReachedReadsBack
reached-reads-back =
    record {
      kept = whole-kept;
      whole = reached-whole;
      back = λ m m' t r e f g h.
          let w = reached-whole m r in
          let b = snapshots.back m m' t w e f g h in
          (b.0, subst (Alike m) (sym b.1) (read_alike m m' w e));
      erase_refused = λ m m' t r e f h. snapshots.erase_refused m m' t (reached-whole m r) e f h;
      matches = reached-matches;
      still_matches = λ m m' w a n. alike-matches m m' (whole-good m w) a n;
      after = after;
    }

-- ---- from memory that a snapshot was read into

pub read-onward : ReadOnward
read-onward bytes m t b e =
    let w = (snapshots.same bytes m t b e).1 in
    let g = whole-good (memory_read 0 bytes m) w in
    record { booked = onward.booked _ g; shown = onward.shown _ g; whole = whole-kept _ w }
