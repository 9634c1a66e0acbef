-- What is accepted writes back, and the accepted records are those of sound states. `accepted` is taken apart into its tests; each test of a
-- byte says that the byte is written as it was read. Assumes nothing.
use mathlib.Core.Path.{◌≡◌, refl, sym, ap, ◌∙◌}
use mathlib.Core.Bool.{Bool, true, false, cond, ◌&&◌}
use mathlib.Core.List.{List, [], ◌∷◌}
use Prim.Native.Nat.{ℕ, zero, suc, ◌%◌, ◌<◌}
use native.Mathlib.Omega.{arith}
use borrow.Author.Tests.{lt-ltb, leb-true, ltb-true, eqb-true}
use lib.Dec.{ltb, eqb}
use lib.ListN.{length}
use Rattle.std.proofs.lemmas.Bool.{and_parts}
use Rattle.time.specs.declared.Time.{Time}
use Rattle.control.specs.declared.Mode.{Mode}
use Rattle.control.specs.declared.Mode.TheVariants.{Active, Subactive, Sleep, Subsleep, Watch, Standby}
use Rattle.control.specs.declared.Supply.{Supply}
use Rattle.control.specs.declared.Supply.TheVariants.{Normal, Reduced, Stopped}
use Rattle.control.specs.declared.PendingSense.{PendingSense}
use Rattle.std.specs.Prelude.{Option, Some, None}
use Rattle.registers.specs.declared.Registers.{Registers}
use Rattle.flash.specs.declared.Flash.{Flash}
use Rattle.lists.specs.Lists.{at}
use Rattle.cell.specs.Cell.{page_bytes, array_bytes}
use Rattle.control.specs.Supplies.{supply_number, mode_number}
use Rattle.settle.specs.Pages.{slots_sound}
use Rattle.rows.specs.Rows.{row, row_in, packed, part, flag_known}
use Rattle.rows.proofs.Flags.{flag-known, flag-told}
use Rattle.layout.specs.Layout.{layout, record_length, supply_of, mode_of, option_byte, pending_address, pending_instant, pending_of, time_of, head_of, addresses_of, halves_of, rows_of, registers_of, state_of, encoded, rows_in, decoded, supply_known, mode_known, option_known, head_known, nothing_clear, control_clear, placed, legible, in_range, accepted}
use Rattle.layout.specs.Whole.{Fits, PendingSound, Sound}
use Rattle.rows.proofs.Packed.{packed-unpacked}
use Rattle.layout.proofs.Back.{rows-encoded}

-- ---- what an accepted record tells

pub supply-known : (b : ℕ) → supply_known b ≡ true → supply_number (supply_of b) ≡ b
unfolding supply_of
supply-known zero h = refl
supply-known (suc zero) h = refl
supply-known (suc (suc zero)) h = refl
supply-known (suc (suc (suc b))) h = absurd (omega (arith, leb-true (suc (suc (suc b))) 2 h))

pub mode-known : (b : ℕ) → mode_known b ≡ true → mode_number (mode_of b) ≡ b
unfolding mode_of
mode-known zero h = refl
mode-known (suc zero) h = refl
mode-known (suc (suc zero)) h = refl
mode-known (suc (suc (suc zero))) h = refl
mode-known (suc (suc (suc (suc zero)))) h = refl
mode-known (suc (suc (suc (suc (suc zero))))) h = refl
mode-known (suc (suc (suc (suc (suc (suc b)))))) h = absurd (omega (arith, leb-true (suc (suc (suc (suc (suc (suc b)))))) 5 h))

-- with nothing pending, address and instant are 0
pending-known : (b a : ℕ) (t : Time) → option_known b ≡ true → nothing_clear b a t ≡ true
    → (option_byte (pending_of b a t) ≡ b) × (pending_address (pending_of b a t) ≡ a) × (pending_instant (pending_of b a t) ≡ t)
pending-known zero a t h g =
    let l = and_parts (eqb a 0 && eqb t.0 0) (eqb t.1 0) g in
    let m = and_parts (eqb a 0) (eqb t.0 0) l.0 in
    (refl, sym (eqb-true a 0 m.0), λ i. record { 0 = sym (eqb-true t.0 0 m.1) i; 1 = sym (eqb-true t.1 0 l.1) i })
pending-known (suc zero) a t h g = (refl, refl, refl)
pending-known (suc (suc b)) a t h g = absurd (omega (arith, leb-true (suc (suc b)) 1 h))

-- what `accepted` tests, each by itself
record Tests (rows : List (List ℕ)) : Type 0 where
  head : head_known (part rows 0) ≡ true
  clear : nothing_clear (at (part rows 0) 9) (at (part rows 1) 1) (time_of (part rows 2) 14) ≡ true
  slots : slots_sound (part rows 5) ≡ true
  control : control_clear (at (part rows 0) 0) ≡ true
  page : placed (at (part rows 1) 0) page_bytes ≡ true
  address : placed (at (part rows 1) 1) 4 ≡ true

tests : (rows : List (List ℕ)) → (legible rows && in_range rows) ≡ true → Tests rows
unfolding legible in_range
tests rows h =
    let known = head_known (part rows 0) in
    let clear = nothing_clear (at (part rows 0) 9) (at (part rows 1) 1) (time_of (part rows 2) 14) in
    let control = control_clear (at (part rows 0) 0) in
    let page = placed (at (part rows 1) 0) page_bytes in
    let p = and_parts (legible rows) (in_range rows) h in
    let l = and_parts (known && clear) (slots_sound (part rows 5)) p.0 in
    let m = and_parts known clear l.0 in
    let r = and_parts (control && page) (placed (at (part rows 1) 1) 4) p.1 in
    let q = and_parts control page r.0 in
    record { head = m.0; clear = m.1; slots = l.1; control = q.0; page = q.1; address = r.1 }

accepted-tests : (xs : List ℕ) → accepted xs ≡ true → Tests (rows_in xs)
unfolding accepted
accepted-tests xs h = tests (rows_in xs) h

-- the single bytes that are tested, each by itself
record HeadTests (head : List ℕ) : Type 0 where
  error : flag_known (at head 1) ≡ true
  enabled : flag_known (at head 3) ≡ true
  power_down : flag_known (at head 4) ≡ true
  supply : supply_known (at head 5) ≡ true
  oscillator : flag_known (at head 6) ≡ true
  mode : mode_known (at head 7) ≡ true
  «module» : flag_known (at head 8) ≡ true
  option : option_known (at head 9) ≡ true

head-tests : (head : List ℕ) → head_known head ≡ true → HeadTests head
unfolding head_known
head-tests head h =
    let b1 = flag_known (at head 1) in
    let b3 = flag_known (at head 3) in
    let b4 = flag_known (at head 4) in
    let b5 = supply_known (at head 5) in
    let b6 = flag_known (at head 6) in
    let b7 = mode_known (at head 7) in
    let b8 = flag_known (at head 8) in
    let p9 = and_parts (b1 && b3 && b4 && b5 && b6 && b7 && b8) (option_known (at head 9)) h in
    let p8 = and_parts (b1 && b3 && b4 && b5 && b6 && b7) b8 p9.0 in
    let p7 = and_parts (b1 && b3 && b4 && b5 && b6) b7 p8.0 in
    let p6 = and_parts (b1 && b3 && b4 && b5) b6 p7.0 in
    let p5 = and_parts (b1 && b3 && b4) b5 p6.0 in
    let p4 = and_parts (b1 && b3) b4 p5.0 in
    let p3 = and_parts b1 b3 p4.0 in
    record { error = p3.0; enabled = p3.1; power_down = p4.1; supply = p5.1; oscillator = p6.1; mode = p7.1; «module» = p8.1; option = p9.1 }

-- ---- read, then written

rows_back : (xs : List ℕ) → Tests (rows_in xs) → rows_of (state_of (rows_in xs)) ≡ rows_in xs
unfolding rows_of state_of registers_of head_of addresses_of halves_of rows_in row
rows_back xs t =
    let head = row_in layout 0 xs in
    let addresses = row_in layout 1 xs in
    let v = row_in layout 2 xs in
    let h = head-tests head t.head in
    let p = pending-known (at head 9) (at addresses 1) (time_of v 14) h.option t.clear in
    λ i. (at head 0 ∷ flag-known (at head 1) h.error i ∷ at head 2 ∷ flag-known (at head 3) h.enabled i
    ∷ flag-known (at head 4) h.power_down i ∷ supply-known (at head 5) h.supply i ∷ flag-known (at head 6) h.oscillator i
    ∷ mode-known (at head 7) h.mode i ∷ flag-known (at head 8) h.«module» i ∷ p.0 i ∷ [])
    ∷ (at addresses 0 ∷ p.1 i ∷ [])
    ∷ (at v 0 ∷ at v 1 ∷ at v 2 ∷ at v 3 ∷ at v 4 ∷ at v 5 ∷ at v 6 ∷ at v 7 ∷ at v 8 ∷ at v 9 ∷ at v 10 ∷ at v 11 ∷ at v 12 ∷ at v 13
    ∷ (p.2 i).0 ∷ (p.2 i).1 ∷ [])
    ∷ row_in layout 3 xs ∷ row_in layout 4 xs ∷ row_in layout 5 xs ∷ []

packed-rows : (xs : List ℕ) → length xs ≡ record_length → ((k : ℕ) → at xs k < 256) → packed layout (rows_in xs) ≡ xs
unfolding rows_in
packed-rows xs l b = packed-unpacked layout 0 xs b (sym l)

pub accepted-writes-back : (xs : List ℕ) → length xs ≡ record_length → ((k : ℕ) → at xs k < 256) → accepted xs ≡ true
    → encoded (decoded xs) ≡ xs
unfolding encoded decoded
accepted-writes-back xs l b h = ap (packed layout) (rows_back xs (accepted-tests xs h)) ∙ packed-rows xs l b

-- ---- accepted records are those of sound states

pub placed-says : (a step : ℕ) → placed a step ≡ true → (a % step ≡ 0) × (a < array_bytes)
placed-says a step e =
    let p = and_parts (eqb (a % step) 0) (ltb a array_bytes) e in
    (eqb-true (a % step) 0 p.0, ltb-true a array_bytes p.1)

pending-sound : (b a : ℕ) (t : Time) → placed a 4 ≡ true → PendingSound (pending_of b a t)
pending-sound b a t h = by (eqb b 1)
  where
    by : (c : Bool) → PendingSound (cond c (Some (record { address = a; at = t })) None)
    by true = placed-says a 4 h
    by false = tt

pub accepted-sound : (xs : List ℕ) → accepted xs ≡ true → Sound (decoded xs)
unfolding decoded state_of registers_of
accepted-sound xs h =
    let t = accepted-tests xs h in
    let page = at (part (rows_in xs) 1) 0 in
    let p = placed-says page page_bytes t.page in
    record {
      control = ltb-true (at (part (rows_in xs) 0) 0) 128 t.control;
      page_aligned = p.0;
      page_inside = p.1;
      pending = pending-sound (at (part (rows_in xs) 0) 9) (at (part (rows_in xs) 1) 1) (time_of (part (rows_in xs) 2) 14) t.address;
      slots = t.slots;
    }

supply-told : (s : Supply) → supply_known (supply_number s) ≡ true
supply-told Normal = refl
supply-told Reduced = refl
supply-told Stopped = refl

mode-told : (m : Mode) → mode_known (mode_number m) ≡ true
mode-told Active = refl
mode-told Subactive = refl
mode-told Sleep = refl
mode-told Subsleep = refl
mode-told Watch = refl
mode-told Standby = refl

option-told : (p : Option PendingSense) → option_known (option_byte p) ≡ true
option-told None = refl
option-told (Some p) = refl

clear_told : (p : Option PendingSense) → nothing_clear (option_byte p) (pending_address p) (pending_instant p) ≡ true
clear_told None = refl
clear_told (Some p) = refl

pub placed-told : (a step : ℕ) → a % step ≡ 0 → a < array_bytes → placed a step ≡ true
placed-told a step e l = rw (e, lt-ltb a array_bytes l)

address-told : (p : Option PendingSense) → PendingSound p → placed (pending_address p) 4 ≡ true
address-told None f = refl
address-told (Some p) f = placed-told p.address 4 f.0 f.1

head-told : (r : Registers) → head_known (head_of r) ≡ true
unfolding head_known head_of
head-told r =
    rw (
      flag-told r.error,
      flag-told r.enabled,
      flag-told r.power_down_disabled,
      supply-told r.supply,
      flag-told r.oscillator,
      mode-told r.mode,
      flag-told r.«module»,
      option-told r.verify_pending,
    )

sound-rows : (s : Flash) → Sound s → (legible (rows_of s) && in_range (rows_of s)) ≡ true
unfolding legible in_range rows_of head_of addresses_of halves_of
sound-rows s f =
    let r = s.registers in
    rw (
      head-told r,
      clear_told r.verify_pending,
      f.slots,
      lt-ltb r.control 128 f.control,
      placed-told r.page page_bytes f.page_aligned f.page_inside,
      address-told r.verify_pending f.pending,
    )

pub accepted-encoded : (s : Flash) → Fits s → Sound s → accepted (encoded s) ≡ true
unfolding accepted
accepted-encoded s f g = rw (rows-encoded s f) (sound-rows s g)
