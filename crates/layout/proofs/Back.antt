-- What is written reads back: a state's numbers fit their rows, so that by the laws of rows the record's rows are the state's, and those are
-- taken for what they were, field by field. And the state that a record holds fits. Assumes nothing.
use mathlib.Core.Path.{◌≡◌, refl, ap, ◌∙◌}
use mathlib.Core.Bool.{Bool, true, false, cond}
use mathlib.Core.List.{List, [], ◌∷◌}
use Prim.Native.Nat.{ℕ, zero, suc, ◌^◌, ◌<◌}
use lib.Dec.{lit<, eqb}
use lib.ListN.{length}
use Rattle.time.specs.declared.Time.{Time}
use Rattle.control.specs.declared.Mode.{Mode}
use Rattle.control.specs.declared.Mode.TheVariants.{Active, Subactive, Sleep, Subsleep, Watch, Standby}
use Rattle.control.specs.declared.Supply.{Supply}
use Rattle.control.specs.declared.Supply.TheVariants.{Normal, Reduced, Stopped}
use Rattle.control.specs.declared.PendingSense.{PendingSense}
use Rattle.std.specs.Prelude.{Option, Some, None}
use Rattle.registers.specs.declared.Registers.{Registers}
use Rattle.flash.specs.declared.Flash.{Flash}
use Rattle.lists.specs.Lists.{at}
use Rattle.cell.specs.Cell.{pages}
use Rattle.control.specs.Supplies.{supply_number, mode_number}
use Rattle.rows.specs.Rows.{Fills, row_in}
use Rattle.rows.proofs.Flags.{flag-fits, flag-back}
use Rattle.layout.specs.Layout.{head_row, address_row, half_row, layout, record_length, supply_of, mode_of, option_byte, pending_address, pending_instant, pending_of, time_of, head_of, addresses_of, halves_of, rows_of, registers_of, state_of, encoded, rows_in, decoded}
use Rattle.layout.specs.Whole.{TimeFits, PendingFits, RegistersFit, Fits}
use Rattle.rows.proofs.Packed.{RowsFit, length-row_in, unpacked-packed, unpacked-fits, length-packed, packed-small}

infixr 5 ◌▹◌
-- ---- the state's numbers fit their rows

-- each number of a list is below a bound
data Below : ℕ → List ℕ → Type 0 where
  none : {b : ℕ} → Below b []
  ◌▹◌ : {b v : ℕ} {vs : List ℕ} → v < b → Below b vs → Below b (v ∷ vs)

below : {b : ℕ} {vs : List ℕ} → 0 < b → Below b vs → (k : ℕ) → at vs k < b
below h none k = h
below h (p ▹ ps) zero = p
below h (p ▹ ps) (suc k) = below h ps k

supply-fits : (s : Supply) → supply_number s < 256
supply-fits Normal = lit< tt
supply-fits Reduced = lit< tt
supply-fits Stopped = lit< tt

mode-fits : (m : Mode) → mode_number m < 256
mode-fits Active = lit< tt
mode-fits Subactive = lit< tt
mode-fits Sleep = lit< tt
mode-fits Subsleep = lit< tt
mode-fits Watch = lit< tt
mode-fits Standby = lit< tt

option-fits : (p : Option PendingSense) → option_byte p < 256
option-fits None = lit< tt
option-fits (Some p) = lit< tt

address-fits : (p : Option PendingSense) → PendingFits p → pending_address p < 2 ^ 16
address-fits None f = lit< tt
address-fits (Some p) f = f.0

instant-fits : (p : Option PendingSense) → PendingFits p → TimeFits (pending_instant p)
instant-fits None f = record { whole = lit< tt; part = lit< tt }
instant-fits (Some p) f = f.1

head-fits : (r : Registers) → RegistersFit r → Fills head_row (head_of r)
unfolding head_of
head-fits r f =
    let p : Below 256 (head_of r) = f.control ▹ flag-fits r.error ▹ f.erase ▹ flag-fits r.enabled
    ▹ flag-fits r.power_down_disabled ▹ supply-fits r.supply ▹ flag-fits r.oscillator ▹ mode-fits r.mode
    ▹ flag-fits r.«module» ▹ option-fits r.verify_pending ▹ none in
    record { long = refl; small = below (lit< tt) p }

addresses-fit : (r : Registers) → RegistersFit r → Fills address_row (addresses_of r)
unfolding addresses_of
addresses-fit r f =
    let p : Below (2 ^ 16) (addresses_of r) = f.page ▹ address-fits r.verify_pending f.verify_pending ▹ none in
    record { long = refl; small = below (lit< tt) p }

halves-fit : (r : Registers) (since : Time) → RegistersFit r → TimeFits since → Fills half_row (halves_of r since)
unfolding halves_of
halves-fit r since f g =
    let h = instant-fits r.verify_pending f.verify_pending in
    let p : Below (2 ^ 64) (halves_of r since) = f.ready.whole ▹ f.ready.part ▹ f.swe_ready.whole ▹ f.swe_ready.part
    ▹ f.program_ready.whole ▹ f.program_ready.part ▹ f.erase_ready.whole ▹ f.erase_ready.part ▹ f.recovery.whole ▹ f.recovery.part
    ▹ f.verify_ready.whole ▹ f.verify_ready.part ▹ g.whole ▹ g.part ▹ h.whole ▹ h.part ▹ none in
    record { long = refl; small = below (lit< tt) p }

rows_fit : (s : Flash) → Fits s → RowsFit layout (rows_of s)
unfolding rows_of
rows_fit s f = (
  head-fits s.registers f.registers,
  (
    addresses-fit s.registers f.registers,
    (halves-fit s.registers s.pulse_since f.registers f.pulse_since, (f.registers.latch, (f.sensed, (f.indices, tt)))),
  ),
)

-- ---- written, then read

supply-back : (s : Supply) → supply_of (supply_number s) ≡ s
unfolding supply_of
supply-back Normal = refl
supply-back Reduced = refl
supply-back Stopped = refl

mode-back : (m : Mode) → mode_of (mode_number m) ≡ m
unfolding mode_of
mode-back Active = refl
mode-back Subactive = refl
mode-back Sleep = refl
mode-back Subsleep = refl
mode-back Watch = refl
mode-back Standby = refl

pending-back : (p : Option PendingSense) → pending_of (option_byte p) (pending_address p) (pending_instant p) ≡ p
pending-back None = refl
pending-back (Some p) = refl

registers-back : (r : Registers) (since : Time) → registers_of (head_of r) (addresses_of r) (halves_of r since) r.latch ≡ r
unfolding registers_of head_of addresses_of halves_of
registers-back r since =
    λ i. record r {
      error = flag-back r.error i;
      enabled = flag-back r.enabled i;
      power_down_disabled = flag-back r.power_down_disabled i;
      supply = supply-back r.supply i;
      oscillator = flag-back r.oscillator i;
      mode = mode-back r.mode i;
      «module» = flag-back r.«module» i;
      verify_pending = pending-back r.verify_pending i;
    }

state-back : (s : Flash) → state_of (rows_of s) ≡ s
unfolding state_of rows_of halves_of
state-back s =
    λ i. record s { registers = registers-back s.registers s.pulse_since i }

-- the rows of a state's record are the state's
pub rows-encoded : (s : Flash) → Fits s → rows_in (encoded s) ≡ rows_of s
unfolding rows_in encoded
rows-encoded s f = unpacked-packed layout (rows_of s) (rows_fit s f)

pub written-reads-back : (s : Flash) → Fits s → decoded (encoded s) ≡ s
unfolding decoded
written-reads-back s f = ap state_of (rows-encoded s f) ∙ state-back s

pub length-encoded : (s : Flash) → Fits s → length (encoded s) ≡ record_length
unfolding encoded
length-encoded s f = length-packed layout (rows_of s) (rows_fit s f)

pub bytes-encoded : (s : Flash) (k : ℕ) → at (encoded s) k < 256
unfolding encoded
bytes-encoded s k = packed-small layout (rows_of s) k

-- ---- a record's state fits

pending-fits : (b a : ℕ) (t : Time) → a < 2 ^ 16 → TimeFits t → PendingFits (pending_of b a t)
pending-fits b a t h g = by (eqb b 1)
  where
    by : (c : Bool) → PendingFits (cond c (Some (record { address = a; at = t })) None)
    by true = (h, g)
    by false = tt

time-fits : (vs : List ℕ) (k : ℕ) → Fills half_row vs → TimeFits (time_of vs k)
time-fits vs k f = record { whole = f.small k; part = f.small (suc k) }

pub decoded-index : (xs : List ℕ) → length (decoded xs).indices ≡ pages
unfolding decoded state_of rows_in
decoded-index xs = length-row_in layout 5 xs

pub decoded-fits : (xs : List ℕ) → ((k : ℕ) → at xs k < 256) → Fits (decoded xs)
unfolding decoded state_of registers_of rows_in
decoded-fits xs b =
    let f = unpacked-fits layout 0 xs b in
    let head = f.0 in
    let addresses = f.1.0 in
    let halves = f.1.1.0 in
    let vs = row_in layout 2 xs in
    let time : (k : ℕ) → TimeFits (time_of vs k) = λ k. time-fits vs k halves in
    record {
      registers = record {
        control = head.small 0;
        erase = head.small 2;
        latch = f.1.1.1.0;
        page = addresses.small 0;
        ready = time 0;
        swe_ready = time 2;
        program_ready = time 4;
        erase_ready = time 6;
        recovery = time 8;
        verify_ready = time 10;
        verify_pending = pending-fits (at (row_in layout 0 xs) 9) (at (row_in layout 1 xs) 1) (time_of vs 14) (addresses.small 1) (time 14);
      };
      pulse_since = time 12;
      sensed = f.1.1.1.1.0;
      indices = f.1.1.1.1.1.0;
    }
