-- The claim of a list of calls. A ledger agrees with the memory that it is begun from, and a new one with that of a new array, so the memory
-- after a list carries a chip that agrees with the ledger after it; each field of the claim is what that says of a look, a read or any next
-- call. Demand 3 is the case of a new array. Assumes nothing.
use mathlib.Core.Path.{◌≡◌, refl, sym, ap, subst, ◌∙◌}
use mathlib.Core.Bool.{true}
use mathlib.Core.List.{List, [], ◌∷◌}
use Prim.Native.Nat.{ℕ, zero, suc, ◌+◌, ◌*◌, ◌≤◌, ◌<◌}
use native.Mathlib.Nat.{le_refl}
use native.Mathlib.Omega.{arith}
use borrow.Author.Tests.{leb-false, ltb-false}
use lib.Dec.{ltb}
use lib.ListN.{length}
use Rattle.refusal.specs.declared.Refusal.TheVariants as refused
use Rattle.time.specs.declared.Time.{Time}
use Rattle.time.specs.Raw.{raw, instant}
use Rattle.lists.specs.Lists.{at}
use Rattle.registers.specs.Pulses.{pulse, normal}
use Rattle.registers.specs.Environment.{fresh}
use Rattle.settle.specs.Pages.{cell_at}
use Rattle.settle.specs.Settling.{normal_byte}
use Rattle.flash.specs.declared.Flash.{Flash}
use Rattle.flash.specs.Chip.{Chip, registers, cells, answer, fresh_flash}
use Rattle.flash.specs.Looking.{charge_at, image_at, peek_at}
use Rattle.flash.proofs.Fresh.{fresh-cell, fresh-senses}
use Rattle.settle.proofs.Expose.{Senses, settled-array-length, expose-senses}
use Rattle.layout.proofs.Back.{written-reads-back}
use Rattle.lent.specs.declared.Request.TheVariants.{Read8, Read16}
use Rattle.lent.proofs.Looks.{inside, cell-inside}
use Rattle.lent.specs.Memory.{Memory, chip_in, check, past_end}
use Rattle.lent.specs.Asked.{outcome}
use Rattle.lent.proofs.Lines.{line}
use Rattle.lent.specs.Looked.{address_place, cell_place, sized_refusal, charge_refusal, charge_answer, peek_refusal, peek_answer, output_refusal, image_refusal, image_left}
use Rattle.ledger.specs.Words.{applied, ends_in}
use Rattle.ledger.specs.Ledger.{Ledger, look, fresh_ledger, ledger_of}
use Rattle.ledger.specs.Lists.{Asked, Typed, new_memory}
use Rattle.ledger.specs.Claim.{Good, Matches, Booked, Shown, BookedBy, ShownBy, Onward, Demand3}
use Rattle.ledger.proofs.Kept.{fresh-fits}
use Rattle.ledger.proofs.Order.{InOrder, order-in, order-good, order-back, fresh-order}
use Rattle.ledger.proofs.Book.{book-now}
use Rattle.ledger.proofs.Agree.{Agree, look-settled, image-settled, served_byte, served_word}
use Rattle.ledger.proofs.Accepted.{Passed, passed, left_at}
use Rattle.ledger.proofs.Carried.{called, followed}

-- ---- what is claimed

-- what a look leaves in its output, by its number
image-left : (n : ℕ) (t : Time) (m : Memory) (out : List ℕ) → n ≡ 0 → length (image_at t (chip_in m)) ≤ length out
    → (b : ℕ) → b < length (image_at t (chip_in m)) → at (image_left n t m out) b ≡ at (image_at t (chip_in m)) b
image-left zero t m out e h b l = left_at (image_at t (chip_in m)) out h b l
image-left (suc n) t m out e h b l = absurd (omega arith)

module _ (m : Memory) (led : Ledger) (g : Good m) (a : Agree (chip_in m) led) where
  charge-look : (b bit : ℕ) (t : Time) → charge_refusal b bit t m ≡ 0 → charge_answer b bit t m ≡ look t led (8 * b + bit)
  unfolding charge_refusal sized_refusal charge_answer charge_at
  charge-look b bit t e =
      let p = passed (cell_place b bit) t m [] e in
      let o = cell-inside b bit refl p.placed in
      look-settled (order-in m g).cells.slots a t p.since (8 * b + bit) (omega (arith, o.0, o.1))

  -- charges, registers and events
  booked : (array events : List ℕ) → applied events array ≡ m.array → led.ends ≡ ends_in events → Booked array events m led
  booked array events h k =
      record {
        fits = g.fits;
        reads = g.reads;
        registers_are = sym a.registers;
        charge = charge-look;
        unsettled = λ q. (called q m g).unsettled;
        each = λ q. (called q m g).each;
        bytes = h;
        ends = sym k;
      }

  module _ (n : Senses (cells (chip_in m))) where
    settled : (t : Time) → raw (chip_in m).flash.pulse_since ≤ raw t → (b : ℕ) → b < 49152 → at (image_at t (chip_in m)) b ≡ normal_byte (look t led) b
    unfolding image_at
    settled t h b l = image-settled (order-in m g).cells n a t h b l

    peek-look : (b : ℕ) (t : Time) → peek_refusal b t m ≡ 0 → peek_answer b t m ≡ normal_byte (look t led) b
    unfolding peek_refusal sized_refusal peek_answer peek_at
    peek-look b t e =
        let p = passed (address_place b) t m [] e in
        settled t p.since b (inside b refl p.placed)

    image-long : (t : Time) → length (image_at t (chip_in m)) ≡ 49152
    unfolding image_at
    image-long t =
        let r = registers (chip_in m) in
        settled-array-length r.latch (chip_in m).flash.pulse_since t (cells (chip_in m)) (pulse r) ∙ (order-in m g).cells.long

    image-passed : (t : Time) (room : ℕ) → image_refusal t room m ≡ 0 → Passed 0 t m (check refused.Output (ltb room 49152) ∷ [])
    unfolding image_refusal output_refusal
    image-passed t room e = passed 0 t m (check refused.Output (ltb room 49152) ∷ []) e

    image-look : (t : Time) (out : List ℕ) → image_refusal t (length out) m ≡ 0
        → (b : ℕ) → b < 49152 → at (image_left (image_refusal t (length out) m) t m out) b ≡ normal_byte (look t led) b
    image-look t out e b l =
        let p = image-passed t (length out) e in
        let room = ltb-false (length out) 49152 (line 7 (ltb (length out) 49152) 0 p.rest).0 in
        image-left (image_refusal t (length out) m) t m out e (omega (arith, image-long t)) b (omega (arith, image-long t))
        ∙ settled t p.since b l

    read_byte : (b : ℕ) (t : Time) (lent : List ℕ) → (outcome (Read8 b) t lent m).number ≡ 0 → normal t (registers (chip_in m)) ≡ true
        → (outcome (Read8 b) t lent m).value ≡ normal_byte (look t led) b
    unfolding answer
    read_byte b t lent e r =
        let o = called (record { request = Read8 b; time = t; lent = lent }) m g in
        let p = o.passed e in
        o.value e ∙ served_byte (order-in m g).cells n a t p.since r b (leb-false 49152 b (line 3 (past_end b) 0 p.placed).0)

    read_word : (b : ℕ) (t : Time) (lent : List ℕ) → (outcome (Read16 b) t lent m).number ≡ 0 → normal t (registers (chip_in m)) ≡ true
        → (outcome (Read16 b) t lent m).value ≡ 256 * normal_byte (look t led) b + normal_byte (look t led) (suc b)
    unfolding answer
    read_word b t lent e r =
        let o = called (record { request = Read16 b; time = t; lent = lent }) m g in
        let p = o.passed e in
        o.value e ∙ served_word (order-in m g).cells n a t p.since r b (leb-false 49152 (suc b) (line 3 (past_end (suc b)) 0 p.placed).0)

    -- bytes
    shown : Shown m led
    shown =
        record {
          peek = peek-look;
          image = image-look;
          served_byte = read_byte;
          served_word = read_word;
          stored = λ q. (called q m g).stored led a n;
        }

-- ---- every list

-- a ledger agrees with the memory that it is begun from, where nothing is exposed since its last settling
began : (m : Memory) → Agree (chip_in m) (ledger_of m)
unfolding ledger_of look
began m =
    let k = chip_in m in
    record {
      registers = refl;
      opened = le_refl (raw k.flash.pulse_since);
      cells = λ i l. sym (book-now (pulse (registers k)) (registers k).latch k.flash.pulse_since (cell_at (cells k)) i);
    }

module _ (m : Memory) (g : Good m) (qs : List Asked) (t : Typed qs) where
  booked-on : BookedBy qs m (ledger_of m)
  unfolding ledger_of
  booked-on =
      let f = followed qs m t g in
      booked _ _ f.carried.good (f.carried.agree _ (began m)) m.array _ f.bytes (f.ends _ (began m))

  shown-on : Matches m → ShownBy qs m (ledger_of m)
  shown-on n =
      let f = followed qs m t g in
      shown _ _ f.carried.good (f.carried.agree _ (began m)) (f.carried.lasts Senses expose-senses n)

pub onward : Onward
onward =
    record {
      booked = booked-on;
      shown = λ m g n qs t. shown-on m g qs t n;
      good = λ m g qs t. (followed qs m t g).carried.good;
      matches = λ m g n qs t. (followed qs m t g).carried.lasts Senses expose-senses n;
    }

-- ---- a new array

-- the ledger of its memory is a new one
new-ledger : (firmware charges : List ℕ) → ledger_of (new_memory firmware charges) ≡ fresh_ledger firmware
unfolding ledger_of fresh_ledger fresh_flash
new-ledger firmware charges =
    ap ledger_with (written-reads-back fresh_flash fresh-fits)
    ∙ (λ i. record { registers = fresh; charge = λ j. fresh-cell firmware charges j i; opened = instant 0; ends = [] })
  where
    ledger_with : Flash → Ledger
    ledger_with s =
        record {
          registers = s.registers;
          charge = cell_at (record { index = s.indices; array = firmware; charges = charges });
          opened = s.pulse_since;
          ends = [];
        }

module _ (firmware charges : List ℕ) (h : length firmware ≡ 49152) (small : (b : ℕ) → at firmware b < 256) (l : length charges ≡ 393216) where
  abbrev new_chip : Chip
  new_chip = record { flash = fresh_flash; array = firmware; charges = charges }

  order : InOrder new_chip
  order = fresh-order firmware charges h small l

  pub new-good : Good (new_memory firmware charges)
  new-good = order-good new_chip order

  pub new-matches : Matches (new_memory firmware charges)
  unfolding fresh_flash
  new-matches = subst (λ (k : Chip). Senses (cells k)) (sym (order-back new_chip order)) (fresh-senses firmware charges small)

pub demand3 : Demand3
demand3 =
    record {
      of_every_list = λ firmware charges h small l qs t.
          let m = new_memory firmware charges in
          let g = new-good firmware charges h small l in
          let e = new-ledger firmware charges in (
            subst (BookedBy qs m) e (booked-on m g qs t),
            subst (ShownBy qs m) e (shown-on m g qs t (new-matches firmware charges h small l)),
          );
    }
