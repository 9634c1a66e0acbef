-- Between calls memory carries a chip that agrees with the ledger: its record is that chip's, written whole, and is good. Each call keeps
-- it: a refused one changes nothing, an accepted one is a step of the chip. Induction over the list gives it, and the events so far, after
-- every list. Assumes nothing.
use mathlib.Core.Path.{◌≡◌, refl, sym, ap, subst, ◌∙◌}
use mathlib.Core.Bool.{true, false}
use mathlib.Core.List.{List, [], ◌∷◌, ◌++◌, append_assoc, append-nil}
use Prim.Native.Nat.{ℕ, zero, suc, ◌<◌}
use native.Mathlib.Omega.{arith}
use lib.Dec.{eqb-suc-zero}
use lib.ListN.{length}
use Rattle.lists.specs.Lists.{at}
use Rattle.cell.specs.Cell.{array_bytes}
use Rattle.registers.specs.Calls.{settles}
use Rattle.settle.specs.Pages.{Cells}
use Rattle.settle.specs.Settling.{normal_byte, changes, end_words}
use Rattle.settle.proofs.Expose.{Senses, expose-senses}
use Rattle.settle.proofs.Loop.{changes-same}
use Rattle.flash.specs.Chip.{Chip, registers, cells, step, answer}
use Rattle.layout.specs.Whole.{TimeFits}
use Rattle.lent.specs.Memory.{Memory, chip_in}
use Rattle.lent.specs.Asked.{Outcome, call_of, refusal, outcome_by, outcome, call_place}
use Rattle.lent.proofs.Tells.{request-placed}
use Rattle.ledger.specs.Words.{applied, bytes_in, ends_in}
use Rattle.ledger.specs.Ledger.{Ledger, look, entered}
use Rattle.ledger.specs.Lists.{Asked, asked, Numbers, Typed, memory_after, words_of, events_of, heard, heard_of, enter, ledger_after}
use Rattle.ledger.specs.Claim.{Good}
use Rattle.ledger.proofs.Words.{applied-append, ends-append}
use Rattle.ledger.proofs.Kept.{numbers-arguments}
use Rattle.ledger.proofs.Order.{Lasting, lasting-step, order-in, order-good, order-back, order-step}
use Rattle.ledger.proofs.Agree.{Agree, agree-step, stored-settled, entered-ends}
use Rattle.ledger.proofs.Events.{step-now, step-array, step-applied, step-bytes, step-ends}
use Rattle.ledger.proofs.Accepted.{Passed, words_line, call-passed, enough, words-given, call-placed}

-- ---- from memory to memory

-- What calls that left m' of m, and change a ledger so, carry on: a good record; what every exposure keeps of cells; and, by itself, that
-- chip and ledger agree.
pub record Carried (m m' : Memory) (after : Ledger → Ledger) : Type 1 where
  pub good : Good m'
  pub lasts : (P : Cells → Type 0) → Lasting P → P (cells (chip_in m)) → P (cells (chip_in m'))
  pub agree : (led : Ledger) → Agree (chip_in m) led → Agree (chip_in m') (after led)

-- ---- one call, by its number

-- What an outcome o keeps and tells: an accepted call passed the checks and answered as the chip does; any call's words are its events.
pub record Called (q : Asked) (m : Memory) (o : Outcome) : Type 1 where
  pub carried : Numbers q.request → TimeFits q.time → Carried m o.memory (enter (heard q o))
  pub passed : o.number ≡ 0 → Passed (call_place q.request) q.time m (words_line q.request q.time (length q.lent) m)
  pub value : o.number ≡ 0 → o.value ≡ answer (call_of q.request) q.time (chip_in m)
  pub stored : (led : Ledger) → Agree (chip_in m) led → Senses (cells (chip_in m)) → o.number ≡ 0
      → settles (call_of q.request) q.time (registers (chip_in m)) ≡ true
      → (a : ℕ) → a < array_bytes → at o.memory.array a ≡ normal_byte (look q.time (enter (heard q o) led)) a
  pub unsettled : settles (call_of q.request) q.time (registers (chip_in m)) ≡ false → o.memory.array ≡ m.array
  pub each : bytes_in (words_of o) ≡ changes 0 m.array o.memory.array
  pub bytes : applied (words_of o) m.array ≡ o.memory.array
  pub ends : (led : Ledger) → Agree (chip_in m) led → (enter (heard q o) led).ends ≡ led.ends ++ ends_in (words_of o)

module _ (q : Asked) (m : Memory) (g : Good m) where
  refused-call : (n : ℕ) → Called q m (outcome_by (suc n) q.request q.time q.lent m)
  unfolding outcome_by enter applied bytes_in ends_in
  refused-call n =
      record {
        carried = λ h t. record { good = g; lasts = λ P e x. x; agree = λ led a. rw (eqb-suc-zero n) a };
        passed = λ e. absurd (omega arith);
        value = λ e. absurd (omega arith);
        stored = λ led a s e. absurd (omega arith);
        unsettled = λ s. refl;
        each = sym (changes-same 0 m.array);
        bytes = refl;
        ends = λ led a. rw (eqb-suc-zero n) (sym (append-nil led.ends));
      }

  accepted-call : refusal q.request q.time (length q.lent) m ≡ 0 → Called q m (outcome_by 0 q.request q.time q.lent m)
  unfolding outcome_by enter
  accepted-call e =
      let k = chip_in m in
      let o = order-in m g in
      let c = call_of q.request in
      let now = q.time in
      let k' = (step c now k).chip in
      let p = call-passed q.request now (length q.lent) m e in
      let w = words-given (step c now k).events q.lent (enough q.request now (length q.lent) m e) in
      record {
        carried = λ h t.
            let o' = order-step c now k (numbers-arguments q.request h) t p.in_time (request-placed q.request (call-placed q.request now (length q.lent) m e)) o in
            let back = sym (order-back k' o') in
            record {
              good = order-good k' o';
              lasts = λ P e x. subst (λ (y : Chip). P (cells y)) back (lasting-step P e k now o.cells x c);
              agree = λ led a. subst (λ (y : Chip). Agree y (entered c now led)) back (agree-step c now a o.cells.slots p.since);
            };
        passed = λ z. p;
        value = λ z. refl;
        stored = λ led a s z l b h.
            rw (step-now c now k l) at (stored-settled (lasting-step Senses expose-senses k now o.cells s c) (agree-step c now a o.cells.slots p.since) b h);
        unsettled = λ s. step-array c now k s;
        each = rw w (step-bytes c now k o);
        bytes = rw w (step-applied c now k o);
        ends = λ led a.
            rw w (entered-ends c now led ∙ ap (λ (es : List ℕ). led.ends ++ es) (ap (end_words c now) a.registers ∙ sym (step-ends c now k o)));
      }

  pub called : Called q m (asked q m)
  unfolding outcome
  called = by (refusal q.request q.time (length q.lent) m) refl
    where
      by : (n : ℕ) → refusal q.request q.time (length q.lent) m ≡ n → Called q m (outcome_by n q.request q.time q.lent m)
      by zero e = accepted-call e
      by (suc n) e = refused-call n

-- ---- a list of calls

pub record Followed (qs : List Asked) (m : Memory) : Type 1 where
  pub carried : Carried m (memory_after qs m) (ledger_after (heard_of qs m))
  pub bytes : applied (events_of qs m) m.array ≡ (memory_after qs m).array
  pub ends : (led : Ledger) → Agree (chip_in m) led → (ledger_after (heard_of qs m) led).ends ≡ led.ends ++ ends_in (events_of qs m)

-- one call, then the rest from the memory and the ledger that it leaves
pub followed : (qs : List Asked) (m : Memory) → Typed qs → Good m → Followed qs m
unfolding memory_after events_of heard_of ledger_after applied ends_in
followed [] m t g =
    record {
      carried = record { good = g; lasts = λ P e x. x; agree = λ led a. a };
      bytes = refl;
      ends = λ led a. sym (append-nil led.ends);
    }
followed (q ∷ qs) m t g =
    let one = called q m g in
    let first = one.carried t.0 t.1 in
    let m' = (asked q m).memory in
    let ws = words_of (asked q m) in
    let rest = followed qs m' t.2 first.good in
    record {
      carried = record {
        good = rest.carried.good;
        lasts = λ P e x. rest.carried.lasts P e (first.lasts P e x);
        agree = λ led a. rest.carried.agree (enter (heard q (asked q m)) led) (first.agree led a);
      };
      bytes = applied-append ws (events_of qs m') m.array ∙ ap (applied (events_of qs m')) one.bytes ∙ rest.bytes;
      ends = λ led a.
          rest.ends (enter (heard q (asked q m)) led) (first.agree led a) ∙ ap (λ (es : List ℕ). es ++ ends_in (events_of qs m')) (one.ends led a)
          ∙ append_assoc led.ends (ends_in ws) (ends_in (events_of qs m'))
          ∙ ap (λ (es : List ℕ). led.ends ++ es) (sym (ends-append ws (events_of qs m')));
    }
