-- Worked instant (h). No call of the list is refused, so its events are those of the chip's steps, which compute up to the last one; that
-- one settles a program pulse on page 1, and only bit 0 of 80 hex is latched 0, so only that byte may change. Assumes nothing.
use mathlib.Core.Path.{◌≡◌, refl, ap, sym, ◌∙◌}
use mathlib.Core.Logic.{◌≢◌, ◌⊎◌, inl, inr}
use mathlib.Core.List.{List, [], ◌∷◌, ◌++◌, append-nil}
use Prim.Native.Nat.{ℕ, suc, ◌+◌, ◌*◌, ◌/◌, ◌%◌, ◌^◌, ◌≤◌, ◌<◌}
use native.Mathlib.Nat.{lt_of_lt_of_le}
use native.Mathlib.Omega.{arith}
use native.Mathlib.Decide.{dec_lt, ℕ_discrete}
use lib.Dec.{eqb}
use lib.Pow.{pow_mono, shr_lt, add-lt-pow}
use lib.ListN.{length, set, replicate, length-set, get_or-replicate, get_or-eq_default}
use lib.Seq.{ext_get_or, get_or-set_same, get_or-set_other}
use Rattle.time.specs.Raw.{raw, span, instant, duration, micros, later, plus, after}
use Rattle.time.proofs.Laws.{raw-instant, raw-after, micros-short}
use Rattle.cell.specs.declared.Direction.TheVariants.{Program}
use Rattle.lists.specs.Lists.{at}
use Rattle.cell.specs.Cell.{bit, class_of, limit_of, senses, sensed_cell, from_bits, sensed_byte, moved, exposed, page_bit}
use Rattle.lists.proofs.Maps.{get_or-mapi}
use Rattle.control.specs.Waits.{recovery_after, verify_ready_after}
use Rattle.registers.specs.declared.Pulse.{Pulse}
use Rattle.registers.specs.Access.{settled, control_set, register_set, write_register}
use Rattle.registers.specs.Latch.{data_taken, data_write, write8}
use Rattle.registers.specs.Pulses.{pulse}
use Rattle.registers.specs.Environment.{blank_latch, fresh}
use Rattle.registers.specs.Calls.{next, settles, ending}
use Rattle.settle.specs.Pages.{Cells, cell_at}
use Rattle.settle.specs.Settling.{exposure, covers, charged, ruled, normal_byte, expose, settled_by, word, change, changes, same_pulse, end_of, ended, end_words, sensed_by}
use Rattle.settle.proofs.Expose.{Senses, Where, inside, outside, whether, normal-same, ruled-yes, resensed-here, resensed-else, expose-array-length}
use Rattle.settle.proofs.Loop.{changes-set, changes-same}
use Rattle.flash.specs.Chip.{Chip, cells, step_if, step, fresh_flash}
use Rattle.flash.proofs.Fresh.{fresh-cell, fresh-senses}
use Rattle.layout.specs.Whole.{TimeFits}
use Rattle.lent.specs.Asked.{call_refusal}
use Rattle.ledger.specs.Lists.{Typed, new_memory, events_of}
use Rattle.ledger.specs.Worked.{moment, programming}
use Rattle.ledger.proofs.Order.{fresh-order}
use Rattle.ledger.proofs.Clear.{Clear, step_events, clear-events}

-- the pulse that the last call ends, and its latch
abbrev programs : Pulse
programs = record { direction = Program; first = 1; pages = 1; ready = after (moment 2 0) 50 }

abbrev latch_fe : List ℕ
latch_fe = set blank_latch 0 0xFE

-- FF has eight ones
ones : (k : ℕ) → k < 8 → bit 0xFF k ≡ 1
ones k h = sym (get_or-mapi (λ (j x : ℕ). bit 0xFF j) (replicate 8 0) k h) ∙ get_or-replicate 8 k 1 0 h

-- of page 1 only the byte at 80 hex has a bit latched 0
unlatched : (i : ℕ) → i / 1024 ≡ 1 → i / 8 ≢ 128 → page_bit latch_fe (i % 1024) ≡ 1
unfolding page_bit blank_latch
unlatched i e n =
    rw (get_or-set_other {A = ℕ} (replicate 128 0xFF) 0 (i % 1024 / 8) 0xFE 0 (λ z. n (omega arith)), get_or-replicate {A = ℕ} 128 (i % 1024 / 8) 0xFF 0 (omega arith))
    (ones (i % 1024 % 8) (omega arith))

abbrev new_chip : List ℕ → List ℕ → Chip
new_chip firmware charges = record { flash = fresh_flash; array = firmware; charges = charges }

abbrev new_cells : List ℕ → List ℕ → Cells
new_cells firmware charges = cells (new_chip firmware charges)

-- the array after an exposure of l by that pulse
abbrev exposed_for : ℕ → List ℕ → List ℕ → List ℕ
exposed_for l firmware charges = (expose programs latch_fe l (new_cells firmware charges)).array

-- No call is refused; all but the last open no pulse and change no byte.
abbrev Runs : ℕ → List ℕ → List ℕ → Type 0
Runs l firmware charges =
    Clear (programming l) (new_chip firmware charges)
    × (step_events (programming l) (new_chip firmware charges) ≡ changes 0 firmware (exposed_for l firmware charges) ++ word 2 0x80 0x80 ∷ [])

runs : (firmware charges : List ℕ) → Runs 33323150584765642 firmware charges × Runs 33323150584765641 firmware charges
unfolding raw span instant duration micros later plus after recovery_after verify_ready_after settled control_set register_set write_register data_taken data_write write8 pulse fresh next settles ending exposure settled_by same_pulse end_of ended end_words sensed_by step_if step fresh_flash call_refusal
runs firmware charges = (
  ((refl, (refl, (refl, (refl, (refl, (refl, tt)))))), rw (changes-same 0 firmware) (append-nil _)),
  ((refl, (refl, (refl, (refl, (refl, (refl, tt)))))), rw (changes-same 0 firmware) (append-nil _)),
)

-- what the types say of the calls
moment-fits : (n l : ℕ) → n < 1000000 → l < 2 ^ 64 → TimeFits (moment n l)
unfolding instant
moment-fits n l h k =
    let e : raw (after (instant 0) n) < 2 ^ 64 = rw (raw-after (instant 0) n, raw-instant 0) (omega (arith, micros-short n h)) in
    record { whole = lt_of_lt_of_le (shr_lt 1 64 (add-lt-pow 64 e k)) (pow_mono {i = 1} {j = 64} (omega arith)); part = omega arith }

typed : (l : ℕ) → l < 2 ^ 64 → Typed (programming l)
typed l h = (
  (omega arith, omega arith),
  moment-fits 0 0 (omega arith) (omega arith),
  (
    (omega arith, omega arith),
    moment-fits 0 0 (omega arith) (omega arith),
    (
      (omega arith, omega arith),
      moment-fits 2 0 (omega arith) (omega arith),
      (
        (omega arith, omega arith),
        moment-fits 2 0 (omega arith) (omega arith),
        (
          (omega arith, omega arith),
          moment-fits 60 0 (omega arith) (omega arith),
          ((omega arith, omega arith), moment-fits 60 l (omega arith) h, tt),
        ),
      ),
    ),
  ),
)

-- the byte at 80 hex, from charges 0: one unit of exposure decides
more-80 : normal_byte (λ (i : ℕ). ruled programs latch_fe 33323150584765642 i 0) 0x80 ≡ 0xFE
unfolding normal_byte sensed_byte from_bits sensed_cell senses limit_of class_of ruled covers charged exposed moved page_bit blank_latch
more-80 = refl

less-80 : normal_byte (λ (i : ℕ). ruled programs latch_fe 33323150584765641 i 0) 0x80 ≡ 0xFF
unfolding normal_byte sensed_byte from_bits sensed_cell senses limit_of class_of ruled covers charged exposed moved page_bit blank_latch
less-80 = refl

module _ (firmware charges : List ℕ) (h : length firmware ≡ 49152) (ff : (x : ℕ) → x < 49152 → at firmware x ≡ 0xFF) (k : length charges ≡ 393216) where
  small : (x : ℕ) → at firmware x < 256
  small x = by (dec_lt x 49152)
    where
      by : Dec (x < 49152) → at firmware x < 256
      by (yes l) = omega (arith, ff x l)
      by (no l) =
          let e : at firmware x ≡ 0 = get_or-eq_default firmware 0 (omega arith) in
          omega arith

  sensing : Senses (new_cells firmware charges)
  unfolding fresh_flash
  sensing = fresh-senses firmware charges small

  -- cells of FF have charge 0
  empty : (i : ℕ) → i < 393216 → cell_at (new_cells firmware charges) i ≡ 0
  unfolding fresh_flash
  empty i l = fresh-cell firmware charges i ∙ rw (ff (i / 8) (omega arith), ones (i % 8) (omega arith))

  array-80 : (l v : ℕ) → normal_byte (λ (i : ℕ). ruled programs latch_fe (suc l) i 0) 0x80 ≡ v → exposed_for (suc l) firmware charges ≡ set firmware 0x80 v
  unfolding expose covers charged exposed moved
  array-80 l v e =
      ext_get_or 0 (exposed_for (suc l) firmware charges) (set firmware 0x80 v) (long ∙ sym (length-set firmware 0x80 v))
      (λ a b. by a (omega (arith, long)) (ℕ_discrete a 0x80) (whether programs (a / 128)))
    where
      rule : ℕ → ℕ
      rule i = ruled programs latch_fe (suc l) i (cell_at (new_cells firmware charges) i)

      long : length (exposed_for (suc l) firmware charges) ≡ length firmware
      long = expose-array-length programs latch_fe (suc l) (new_cells firmware charges)

      -- a cell of page 1 outside of that byte
      unmoved : (i : ℕ) → i / 1024 ≡ 1 → i / 8 ≢ 0x80 → rule i ≡ cell_at (new_cells firmware charges) i
      unmoved i o n = ruled-yes programs latch_fe (suc l) i _ (rw o) ∙ rw (unlatched i o n)

      by : (a : ℕ) → a < 49152 → Dec (a ≡ 0x80) → Where programs (a / 128) → at (exposed_for (suc l) firmware charges) a ≡ at (set firmware 0x80 v) a
      by a m (yes o) (inside c p q) =
          rw o
          (resensed-here programs rule firmware 0x80 (omega arith) refl
          ∙ normal-same rule (λ (i : ℕ). ruled programs latch_fe (suc l) i 0) 0x80
          (λ j r. ap (ruled programs latch_fe (suc l) (8 * 0x80 + j)) (empty (8 * 0x80 + j) (omega arith)))
          ∙ e ∙ sym (get_or-set_same firmware 0x80 v 0 (omega arith)))
      by a m (no n) (inside c p q) =
          resensed-here programs rule firmware a (omega arith) c
          ∙ normal-same rule (cell_at (new_cells firmware charges)) a (λ j r. unmoved (8 * a + j) (omega arith) (λ z. n (omega arith)))
          ∙ sym (sensing a m) ∙ sym (get_or-set_other firmware 0x80 a v 0 n)
      by a m o (outside c p) = resensed-else programs rule firmware a c ∙ sym (get_or-set_other firmware 0x80 a v 0 (λ z. n z p))
        where
          n : a ≡ 0x80 → (a / 128 < 1) ⊎ (2 ≤ a / 128) → ⊥
          n z (inl g) = omega arith
          n z (inr g) = omega arith

  byte-event : (l v : ℕ) → normal_byte (λ (i : ℕ). ruled programs latch_fe (suc l) i 0) 0x80 ≡ v
      → changes 0 firmware (exposed_for (suc l) firmware charges) ≡ change (eqb 0xFF v) 0x80 v
  byte-event l v e =
      ap (changes 0 firmware) (array-80 l v e) ∙ changes-set 0 firmware firmware 0x80 v refl (omega arith) refl
      ∙ rw (changes-same 0 firmware, ff 0x80 (omega arith))

  events-run : (l : ℕ) → l < 2 ^ 64 → Runs l firmware charges
      → events_of (programming l) (new_memory firmware charges) ≡ changes 0 firmware (exposed_for l firmware charges) ++ word 2 0x80 0x80 ∷ []
  events-run l b r =
      clear-events (programming l) (new_chip firmware charges) (typed l b) r.0 (fresh-order firmware charges h small k)
      ∙ r.1

  pub programmed : (events_of (programming 33323150584765642) (new_memory firmware charges) ≡ word 1 0x80 0xFE ∷ word 2 0x80 0x80 ∷ [])
      × (events_of (programming 33323150584765641) (new_memory firmware charges) ≡ word 2 0x80 0x80 ∷ [])
  programmed = (
    events-run 33323150584765642 (omega arith) (runs firmware charges).0
        ∙ ap (λ (es : List ℕ). es ++ word 2 0x80 0x80 ∷ []) (byte-event 33323150584765641 0xFE more-80),
    events-run 33323150584765641 (omega arith) (runs firmware charges).1
        ∙ ap (λ (es : List ℕ). es ++ word 2 0x80 0x80 ∷ []) (byte-event 33323150584765640 0xFF less-80),
  )
