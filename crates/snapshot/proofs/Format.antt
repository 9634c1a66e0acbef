-- The snapshot's format is lawful: each field's is, so that the struct's is. And the states that it can hold are those whose numbers fit
-- their types. Assumes nothing.
use mathlib.Core.Path.{◌≡◌, refl}
use mathlib.Core.Bool.{true, not, ◌&&◌, and-eq-true_iff}
use mathlib.Core.List.{List, []}
use Prim.Native.Nat.{ℕ, ◌^◌, ◌%◌, ◌<◌, ◌≤◌}
use native.Mathlib.Nat.{one-le-pow, lt_of_le_of_lt, mod-lt}
use native.Mathlib.Omega.{arith}
use borrow.Author.Tests.{ltb-true, leb-true, le-leb, not-true}
use lib.Dec.{ltb, leb, eqb, lit<, lit≤}
use lib.ListN.{length}
use lib.Pow.{shr_lt}
use Rattle.time.specs.declared.Time.{Time}
use Rattle.time.specs.Raw.{raw, instant}
use Rattle.time.proofs.Laws.{raw-instant, instant-raw, raw-fits}
use Rattle.control.specs.declared.Mode.{Mode}
use Rattle.control.specs.declared.Mode.TheVariants.{Active, Subactive, Sleep, Subsleep, Watch, Standby}
use Rattle.control.specs.declared.Supply.{Supply}
use Rattle.control.specs.declared.Supply.TheVariants.{Normal, Reduced, Stopped}
use Rattle.control.specs.declared.PendingSense.{PendingSense}
use Rattle.std.specs.Prelude.{Option, Some, None}
use Rattle.control.specs.Supplies.{supply_number, mode_number}
use Rattle.cell.specs.Cell.{FULL, page_bytes, page_cells, pages, array_bytes}
use Rattle.settle.specs.Pages.{holds}
use Rattle.flash.specs.declared.Flash.{Flash}
use Rattle.layout.specs.Layout.{latch_row, sensed_row, index_row, supply_of, mode_of, placed}
use Rattle.rows.specs.Rows.{RowFits, Fills}
use Rattle.layout.specs.Whole.{TimeFits, PendingFits, Fits}
use Rattle.layout.proofs.Accepted.{supply-known, mode-known}
use Rattle.borsh.specs.Borsh.{int, only, ◌then◌, array}
use Rattle.borsh.proofs.Laws.{Lawful, Wide, Any, ◌and◌, same-lawful, int-lawful, only-lawful, mapped-lawful, enum_lawful, bool_lawful, then-lawful, GoodOption, option-lawful, vec-lawful, numbers-lawful}
use Rattle.snapshot.specs.Snapshot.{ChargePage, addresses, charge, charge_page, time, pending_in, option_of, pending, supply, mode, controls, latched, supplies, instants, State, state, Contents, snapshot, state_fields, state_of}
use Rattle.snapshot.proofs.Good.{GoodPage, GoodPages}

-- ---- single fields

row_lawful : (n w : ℕ) → Lawful (RowFits n w) (array n (int w))
row_lawful n w =
    same-lawful (numbers-lawful (Wide w) (one-le-pow w 256 (lit< tt)) n (int-lawful w)) (λ vs h. (h.long, h.small))
    (λ vs h. record { long = h.0; small = h.1 })

instant-fits : (n : ℕ) → n < 2 ^ 128 → TimeFits (instant n)
unfolding instant
instant-fits n h = record { whole = shr_lt 64 64 h; part = mod-lt n (lit< tt) }

time-lawful : Lawful TimeFits time
unfolding time
time-lawful =
    mapped-lawful (int-lawful 16) TimeFits instant raw (λ t h. (raw-fits t h.whole h.part, instant-raw t h.part))
    (λ n h. (instant-fits n h, raw-instant n))

pending-lawful : Lawful PendingFits pending
unfolding pending
pending-lawful = mapped-lawful (option-lawful (then-lawful (int-lawful 2) time-lawful)) PendingFits pending_in option_of to from
  where
    to : (p : Option PendingSense) → PendingFits p → GoodOption (Wide 2 and TimeFits) (option_of p) × (pending_in (option_of p) ≡ p)
    to None h = (tt, refl)
    to (Some p) h = (h, refl)

    from : (v : Option (ℕ × Time)) → GoodOption (Wide 2 and TimeFits) v → PendingFits (pending_in v) × (option_of (pending_in v) ≡ v)
    from None h = (tt, refl)
    from (Some v) h = (h, refl)

supply-lawful : Lawful Any supply
unfolding supply supply_of
supply-lawful = enum_lawful 3 supply_number supply_of (omega arith) number (λ b h. supply-known b (le-leb b 2 (omega arith)))
  where
    number : (v : Supply) → (supply_number v < 3) × (supply_of (supply_number v) ≡ v)
    number Normal = (omega arith, refl)
    number Reduced = (omega arith, refl)
    number Stopped = (omega arith, refl)

mode-lawful : Lawful Any mode
unfolding mode mode_of
mode-lawful = enum_lawful 6 mode_number mode_of (omega arith) number (λ b h. mode-known b (le-leb b 5 (omega arith)))
  where
    number : (v : Mode) → (mode_number v < 6) × (mode_of (mode_number v) ≡ v)
    number Active = (omega arith, refl)
    number Subactive = (omega arith, refl)
    number Sleep = (omega arith, refl)
    number Subsleep = (omega arith, refl)
    number Watch = (omega arith, refl)
    number Standby = (omega arith, refl)

-- ---- charge pages

charge-lawful : Lawful (λ q. q ≤ FULL) charge
unfolding charge
charge-lawful =
    same-lawful (only-lawful (int-lawful 8) (λ q. leb q FULL)) (λ q h. (lt_of_le_of_lt h (lit< tt), le-leb q FULL h))
    (λ q h. leb-true q FULL h.1)

-- an address that is placed is below 2 ^ 16
placed-small : (a : ℕ) → placed a page_bytes ≡ true → Wide 2 a
placed-small a h = omega (arith, ltb-true a array_bytes ((and-eq-true_iff (eqb (a % page_bytes) 0) (ltb a array_bytes)).0 h).1)

page-lawful : (before : List ChargePage) → Lawful (GoodPage before) (charge_page before)
unfolding charge_page
page-lawful before =
    same-lawful
    (then-lawful (only-lawful (int-lawful 2) (λ a. placed a page_bytes && not (holds a (addresses before))))
    (numbers-lawful (λ q. q ≤ FULL) (lit≤ tt) page_cells charge-lawful))
    (λ p h. ((placed-small p.0 h.address, (and-eq-true_iff _ _).1 (h.address, rw h.fresh)), (h.long, h.full)))
    λ p h. let t = (and-eq-true_iff (placed p.0 page_bytes) (not (holds p.0 (addresses before)))).0 h.0.1 in
    record { address = t.0; fresh = not-true (holds p.0 (addresses before)) t.1; long = h.1.0; full = h.1.1 }

same-page : (before : List ChargePage) (p : ChargePage) → (charge_page before).write p ≡ (charge_page []).write p
unfolding charge_page ◌then◌ only
same-page before p = refl

-- ---- the state

abbrev pub GoodState : State → Type 0
GoodState =
    (Wide 1 and Any and Wide 1 and Any and Any) and (Fills latch_row and Wide 2) and (Any and Any and Any and Any)
    and (TimeFits and TimeFits and TimeFits and TimeFits and TimeFits and TimeFits and TimeFits) and PendingFits and Fills sensed_row

state-lawful : Lawful GoodState state
unfolding state controls latched supplies instants
state-lawful =
    let t = time-lawful in
    then-lawful (then-lawful (int-lawful 1) (then-lawful bool_lawful (then-lawful (int-lawful 1) (then-lawful bool_lawful bool_lawful))))
    (then-lawful (then-lawful (row_lawful page_bytes 1) (int-lawful 2))
    (then-lawful (then-lawful supply-lawful (then-lawful bool_lawful (then-lawful mode-lawful bool_lawful)))
    (then-lawful (then-lawful t (then-lawful t (then-lawful t (then-lawful t (then-lawful t (then-lawful t t))))))
    (then-lawful pending-lawful (row_lawful 4 1)))))

pub state-good : (s : Flash) → Fits s → GoodState (state_fields s)
unfolding state_fields
state-good s f =
    let r = f.registers in (
      (r.control, (tt, (r.erase, (tt, tt)))),
      (
        (r.latch, r.page),
        (
          (tt, (tt, (tt, tt))),
          (
            (r.ready, (r.swe_ready, (r.program_ready, (r.erase_ready, (r.recovery, (f.pulse_since, r.verify_ready)))))),
            (r.verify_pending, f.sensed),
          ),
        ),
      ),
    )

pub good-fits : (v : State) (index : List ℕ) → GoodState v → Fills index_row index → Fits (state_of v index)
unfolding state_of
good-fits v index (
  (control, (_, (erase, _))),
  (
    (latch, page),
    (_, ((ready, (sweReady, (programReady, (eraseReady, (recovery, (since, verifyReady)))))), (pending, sensed))),
  ),
) fits =
    record {
      registers = record {
        control = control;
        erase = erase;
        latch = latch;
        page = page;
        ready = ready;
        swe_ready = sweReady;
        program_ready = programReady;
        erase_ready = eraseReady;
        recovery = recovery;
        verify_ready = verifyReady;
        verify_pending = pending;
      };
      pulse_since = since;
      sensed = sensed;
      indices = fits;
    }

-- ---- the whole of it

pub record GoodContents (v : Contents) : Type 0 where
  pub array : RowFits array_bytes 1 v.0
  pub few : length v.1.0 ≤ pages
  pub pages : GoodPages [] v.1.0
  pub state : GoodState v.1.1

pub snapshot-lawful : Lawful GoodContents snapshot
unfolding snapshot
snapshot-lawful =
    let pages-lawful = vec-lawful GoodPage charge_page page-lawful same-page pages (lit< tt) in
    same-lawful (then-lawful (row_lawful array_bytes 1) (then-lawful pages-lawful state-lawful))
    (λ v h. (h.array, ((h.few, h.pages), h.state)))
    (λ v h. record { array = h.0; few = h.1.0.0; pages = h.1.0.1; state = h.1.1 })
