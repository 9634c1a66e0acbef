-- Memory that differs in nothing but slots not in use gives the same answers to every call and look, and calls leave it so. The refusals ask
-- for the record and for lengths alone; where none is given the slots are sound, and settling leaves cells the same. Assumes nothing.
use mathlib.Core.Path.{◌≡◌, refl, sym, ap, ap₂, ◌∙◌, subst}
use mathlib.Core.Bool.{Bool, true, false, cond, not}
use mathlib.Core.List.{List, ◌∷◌, ◌++◌}
use Prim.Native.Nat.{ℕ, zero, suc, ◌+◌, ◌-◌, ◌*◌, ◌/◌, ◌<◌, min}
use native.Mathlib.Nat.{zero-add}
use native.Mathlib.Omega.{arith}
use lib.ListN.{length, take, drop, length-take, length-drop}
use lib.Seq.{sets, ext_get_or, get_or-take, get_or-drop}
use Rattle.time.specs.declared.Time.{Time}
use Rattle.lists.specs.Lists.{at}
use Rattle.cell.specs.Cell.{page_bytes}
use Rattle.registers.specs.declared.Call.{Call}
use Rattle.registers.specs.Pulses.{pulse}
use Rattle.registers.specs.Calls.{settles}
use Rattle.settle.specs.Pages.{cell_at, opened}
use Rattle.settle.specs.Settling.{changes, end_words}
use Rattle.settle.proofs.Slots.{SlotsOf, slots-from}
use Rattle.settle.proofs.Expose.{settled-slots}
use Rattle.flash.specs.Chip.{Chip, chip, registers, cells, settled_at, sensed_at, sensed_after, step_if, step, answer, settled_answer}
use Rattle.flash.specs.Looking.{charge_at, image_at, peek_at, all_blank, blank_at}
use Rattle.flash.proofs.Answers.{settled-value, stored-value}
use Rattle.rows.specs.Rows.{flag_byte}
use Rattle.layout.specs.Layout.{encoded, decoded, accepted, refused3}
use Rattle.layout.proofs.Back.{decoded-index}
use Rattle.layout.proofs.Accepted.{accepted-sound}
use Rattle.lent.specs.declared.Request.{Request}
use Rattle.lent.specs.Memory.{Memory, lent, chip_in, misfits}
use Rattle.lent.specs.Asked.{call_of, refusal, outcome_by, outcome}
use Rattle.lent.specs.Looked.{sized_refusal, look_refusal, charge_refusal, charge_answer, peek_refusal, peek_answer, blank_refusal, blank_answer, output_refusal, image_refusal, image_left}
use Rattle.lent.proofs.Fitted.{sizes-fit}
use Rattle.snapshot.specs.Snapshot.{ChargePage, snapshot, place_of, slot_pages, state_fields, contents_of, snapshot_of}
use Rattle.snapshot.specs.Claim.{in_use, SameOutcome, SameAnswers, Restored}
use Rattle.snapshot.proofs.SameCells.{Same, same-charges, same-settled, same-sensed}
use Rattle.snapshot.proofs.IndexBack.{decoded-long, step-index}

-- the chip and the memory with other charges
abbrev chip_with : List ℕ → Chip → Chip
chip_with qs k = record k { charges = qs }

abbrev memory_with : List ℕ → Memory → Memory
memory_with qs m = record m { charges = qs }

-- ---- a chip

module _ (k : Chip) (qs : List ℕ) (inv : SlotsOf (cells k)) (s : Same (cells k) (cells (chip_with qs k))) (now : Time) where
  settled_same : Same (settled_at now k) (settled_at now (chip_with qs k))
  settled_same = same-settled (pulse (registers k)) (registers k).latch k.flash.pulse_since now inv s

  slots-settled : SlotsOf (settled_at now k)
  slots-settled = settled-slots (registers k).latch k.flash.pulse_since now (cells k) (pulse (registers k)) inv

  cells_same : cell_at (settled_at now (chip_with qs k)) ≡ cell_at (settled_at now k)
  cells_same = same-charges slots-settled settled_same

  image-same : image_at now (chip_with qs k) ≡ image_at now k
  unfolding image_at
  image-same = settled_same.array_is

  sensed-same : sensed_at now (chip_with qs k) ≡ sensed_at now k
  sensed-same = same-sensed (registers k) now k.flash.sensed slots-settled settled_same

  module _ (c : Call) where
    answer-same : answer c now (chip_with qs k) ≡ answer c now k
    answer-same = by (settles c now (registers k)) refl
      where
        by : (b : Bool) → settles c now (registers k) ≡ b → answer c now (chip_with qs k) ≡ answer c now k
        by true e =
            settled-value c now (chip_with qs k) e ∙ ap (settled_answer c now (pulse (registers k)) (registers k)) sensed-same
            ∙ sym (settled-value c now k e)
        by false e = stored-value c now (chip_with qs k) e ∙ sym (stored-value c now k e)

    flash-same : (step c now (chip_with qs k)).chip.flash ≡ (step c now k).chip.flash
    unfolding step step_if
    flash-same = by (settles c now (registers k))
      where
        by : (b : Bool) → (step_if b c now (chip_with qs k)).chip.flash ≡ (step_if b c now k).chip.flash
        by true =
            λ i. record ((step_if true c now k).chip.flash) {
              sensed = sensed_after c (sensed-same i);
              indices = settled_same.index_is i;
            }
        by false = refl

    step_same : Same (cells (step c now k).chip) (cells (step c now (chip_with qs k)).chip)
    unfolding step step_if
    step_same = by (settles c now (registers k))
      where
        by : (b : Bool) → Same (cells (step_if b c now k).chip) (cells (step_if b c now (chip_with qs k)).chip)
        by true = settled_same
        by false = s

    events-same : (step c now (chip_with qs k)).events ≡ (step c now k).events
    unfolding step step_if
    events-same = by (settles c now (registers k))
      where
        by : (b : Bool) → (step_if b c now (chip_with qs k)).events ≡ (step_if b c now k).events
        by true = ap (λ (xs : List ℕ). changes 0 k.array xs ++ end_words c now (registers k)) settled_same.array_is
        by false = refl

-- ---- charge pages

-- the charges of a slot that is in use
slot_same : (qs qs' : List ℕ) (s : ℕ) → length qs' ≡ length qs → ((j : ℕ) → j < 1024 → at qs' (s * 1024 + j) ≡ at qs (s * 1024 + j))
    → take 1024 (drop (s * 1024) qs') ≡ take 1024 (drop (s * 1024) qs)
slot_same qs qs' s long used =
    ext_get_or 0 (take 1024 (drop (s * 1024) qs')) (take 1024 (drop (s * 1024) qs))
    (length-take 1024 (drop (s * 1024) qs') ∙ ap (min 1024) (length-drop (s * 1024) qs' ∙ ap (λ n. n - s * 1024) long ∙ sym (length-drop (s * 1024) qs))
    ∙ sym (length-take 1024 (drop (s * 1024) qs)))
    (λ j h. let l : j < 1024 = omega (arith, length-take 1024 (drop (s * 1024) qs')) in
    there qs' j l ∙ used j l ∙ sym (there qs j l))
  where
    there : (l : List ℕ) (j : ℕ) → j < 1024 → at (take 1024 (drop (s * 1024) l)) j ≡ at l (s * 1024 + j)
    there l j h = get_or-take 1024 (drop (s * 1024) l) j 0 h ∙ get_or-drop (s * 1024) l j 0

pages-same : (n s : ℕ) (index qs qs' : List ℕ) → length qs' ≡ length qs → ((i : ℕ) → i < (s + n) * 1024 → at qs' i ≡ at qs i)
    → slot_pages n s index qs' ≡ slot_pages n s index qs
unfolding slot_pages
pages-same zero s index qs qs' long used = refl
pages-same (suc n) s index qs qs' long used =
    ap₂ (λ (cells : List ℕ) (ps : List ChargePage). (place_of (suc s) index * page_bytes, cells) ∷ ps)
    (slot_same qs qs' s long (λ j h. used (s * 1024 + j) (omega arith)))
    (pages-same n (suc s) index qs qs' long (λ i h. used i (omega arith)))

-- ---- memory

-- memory that is refused neither by 2 nor by 3 has sound slots
slots-in : (m : Memory) (later : ℕ) → cond (misfits m) 2 (cond (refused3 m.bytes) 3 later) ≡ 0 → SlotsOf (cells (chip_in m))
slots-in m later e = by (misfits m) (accepted m.bytes) refl refl e
  where
    by : (a b : Bool) → misfits m ≡ a → accepted m.bytes ≡ b → ◌≡◌ {A = ℕ} (cond a 2 (cond (not b) 3 later)) 0 → SlotsOf (cells (chip_in m))
    by false true x y h =
        slots-from _ m.charges (decoded-index m.bytes)
        (sizes-fit (length m.bytes) (length m.array) (length m.charges) x).charges_long (accepted-sound m.bytes y).slots
    by false false x y h = absurd (omega (arith, h))
    by true b x y h = absurd (omega (arith, h))

module _ (m : Memory) (qs : List ℕ) (long : length qs ≡ length m.charges)
    (used : (i : ℕ) → i < in_use m → at qs i ≡ at m.charges i) where
  same : Same (cells (chip_in m)) (cells (chip_with qs (chip_in m)))
  same = record { index_is = refl; array_is = refl; long = long; used = used }

  call_same : (q : Request) (t : Time) (lent : List ℕ) → SameOutcome (outcome q t lent m) (outcome q t lent (memory_with qs m))
  unfolding outcome outcome_by refusal
  call_same q t lent = rw long (by (refusal q t (length lent) m) refl)
    where
      k : Chip
      k = chip_in m

      by : (n : ℕ) → refusal q t (length lent) m ≡ n → SameOutcome (outcome_by n q t lent m) (outcome_by n q t lent (memory_with qs m))
      by zero e =
          let inv = slots-in m _ e in
          let c = call_of q in
          let d = step_same k qs inv same t c in
          let events = events-same k qs inv same t c in
          record {
            number = refl;
            value = answer-same k qs inv same t c;
            events = ap (sets lent 0) events;
            count = ap length events;
            memory = record {
              record_is = ap encoded (flash-same k qs inv same t c);
              array_is = d.array_is;
              long = d.long;
              used = λ i h. d.used i (rw (step-index c t k (decoded-long m.bytes) inv) at h);
            };
          }
      by (suc n) e =
          record { number = refl; value = refl; events = refl; count = refl; memory = record { record_is = refl; array_is = refl; long = long; used = used } }

  look-same : (place : ℕ) (t : Time) → look_refusal place t (memory_with qs m) ≡ look_refusal place t m
  unfolding sized_refusal
  look-same place t = rw long

  slots-looked : (place : ℕ) (t : Time) → look_refusal place t m ≡ 0 → SlotsOf (cells (chip_in m))
  unfolding sized_refusal
  slots-looked place t e = slots-in m _ e

  snapshot-same : snapshot_of (chip_in (memory_with qs m)) ≡ snapshot_of (chip_in m)
  unfolding snapshot_of contents_of
  snapshot-same =
      let s = decoded m.bytes in
      ap (λ (ps : List ChargePage). snapshot.write (m.array, (ps, state_fields s)))
      (pages-same (opened s.indices) 0 s.indices m.charges qs long (λ i h. used i (rw (zero-add (opened s.indices)) at h)))

  answers : SameAnswers m (memory_with qs m)
  unfolding charge_refusal charge_answer charge_at peek_refusal peek_answer peek_at blank_refusal blank_answer blank_at image_refusal output_refusal
  answers =
      let image : (t : Time) → SlotsOf (cells (chip_in m)) → image_at t (chip_with qs (chip_in m)) ≡ image_at t (chip_in m) = λ t inv. image-same (chip_in m) qs inv same t in
      record {
        call = call_same;
        charge = λ a bit t. (look-same _ t, λ e. ap (λ (q : ℕ → ℕ). q (8 * a + bit)) (cells_same (chip_in m) qs (slots-looked _ t e) same t));
        peek = λ a t. (look-same _ t, λ e. ap (λ (xs : List ℕ). at xs a) (image t (slots-looked _ t e)));
        blank = λ a t. (
          look-same _ t,
          λ e. ap (λ (xs : List ℕ). flag_byte (all_blank 128 (a / 128 * 128) xs)) (image t (slots-looked _ t e)),
        );
        image = λ t out. rw long (by t out (image_refusal t (length out) m) refl);
        snapshot = snapshot-same;
      }
    where
      by : (t : Time) (out : List ℕ) (n : ℕ) → image_refusal t (length out) m ≡ n → image_left n t (memory_with qs m) out ≡ image_left n t m out
      by t out zero e = ap (sets out 0) (image-same (chip_in m) qs (slots-in m _ e) same t)
      by t out (suc n) e = refl

pub alike-answers : Restored
alike-answers m m' a =
    subst (SameAnswers m)
    (λ i. lent (sym a.record_is i) (sym a.array_is i) m'.charges)
    (answers m m'.charges a.long a.used)
