-- Light calls: a register write that is accepted where no sense is pending and no pulse is open changes registers and, where it settles,
-- the last settling, and nothing else. So a replay goes on after it with these alone changed. Assumes nothing.
use mathlib.Core.Path.{◌≡◌, refl}
use mathlib.Core.Bool.{Bool, true, false, cond, not, ◌&&◌, ◌||◌, true≢false, and-false}
use mathlib.Core.List.{List, []}
use Prim.Native.Nat.{ℕ, ◌^◌, ◌<◌}
use borrow.Author.Tests.{ltb-true, not-true}
use lib.Dec.{eqb, ltb, lit<}
use Rattle.std.proofs.lemmas.Bool.{and_parts}
use Rattle.time.specs.declared.Time.{Time}
use Rattle.time.specs.Raw.{raw}
use Rattle.std.specs.Prelude.{None, Some}
use Rattle.control.specs.Bits.{FENR, SWE, ESU, PSU, E, P, has, low}
use Rattle.lists.proofs.Bools.{either-way}
use Rattle.registers.specs.declared.Registers.{Registers}
use Rattle.registers.specs.declared.Call.TheVariants as call
use Rattle.registers.specs.Pulses.{program_pulse, erase_pulse, may_pulse, pulse}
use Rattle.registers.specs.Access.{write_register}
use Rattle.registers.specs.Calls.{next, settles}
use Rattle.settle.specs.Settling.{settled_by, sensed_by, ended, end_words}
use Rattle.settle.proofs.Loop.{changes-same}
use Rattle.flash.specs.declared.Flash.{Flash}
use Rattle.flash.specs.Chip.{Chip, chip, Performed, registers, step_if, step, answer}
use Rattle.lent.specs.declared.Request.TheVariants.{WriteRegister}
use Rattle.lent.specs.Memory.{last_second}
use Rattle.lent.specs.Asked.{call_refusal}
use Rattle.light.specs.Writes.{opens, is_light, since_after}

-- ---- tests

-- registers whose control opens no pulse have none
pub closed-pulse : (r : Registers) → opens (may_pulse r) r.control ≡ false → pulse r ≡ None
unfolding pulse
closed-pulse r e =
    by (may_pulse r) (has r.control SWE) (eqb (low r.control) P && has r.control PSU) (eqb (low r.control) E && has r.control ESU) e
  where
    by : (m s p q : Bool) → (m && s && (p || q)) ≡ false
        → cond (m && s) (cond p (Some (program_pulse r)) (cond q (Some (erase_pulse r)) None)) None ≡ None
    by true true false false h = refl
    by true true false true h = absurd (true≢false h)
    by true true true q h = absurd (true≢false h)
    by true false p q h = refl
    by false s p q h = refl

-- what the test for a light call says
pub record Says (may : Bool) (control : ℕ) (since : Time) (what : ℕ) (t : Time) : Type 0 where
  pub a_write : what < 2 ^ 24
  pub not_last : last_second t ≡ false
  pub not_early : ltb (raw t) (raw since) ≡ false
  pub opens_none : opens may control ≡ false

pub light-says : (may : Bool) (control : ℕ) (since : Time) (what : ℕ) (t : Time) → is_light may control since what t ≡ true → Says may control since what t
unfolding is_light
light-says may control since what t e =
    let c = and_parts _ (not (opens may control)) e in
    let b = and_parts _ (not (ltb (raw t) (raw since))) c.0 in
    let a = and_parts (ltb what (2 ^ 24)) (not (last_second t)) b.0 in
    record { a_write = ltb-true what (2 ^ 24) a.0; not_last = not-true _ a.1; not_early = not-true _ b.1; opens_none = not-true _ c.1 }

-- ---- one write

module _ (a v : ℕ) (t : Time) (k : Chip) (shut : pulse (registers k) ≡ None) (nothing : (registers k).verify_pending ≡ None) where
  abbrev written : Flash
  written =
      record (k.flash) { registers = write_register a v t (registers k); pulse_since = since_after (registers k).enabled a k.flash.pulse_since t }

  light-step : step (call.WriteRegister a v) t k ≡ record { chip = record k { flash = written }; events = [] }
  unfolding step step_if next settles settled_by sensed_by ended end_words
  light-step = by (not (eqb a FENR) && (registers k).enabled)
    where
      by : (b : Bool) → step_if b (call.WriteRegister a v) t k
          ≡ record { chip = record k { flash = record (k.flash) { registers = write_register a v t (registers k); pulse_since = cond b t k.flash.pulse_since } }; events = [] }
      by false = refl
      by true = rw (shut, nothing, changes-same 0 k.array, either-way {A = List ℕ})

  pub light-performed : (lent : List ℕ) → Performed (call.WriteRegister a v) t k lent (chip written k.array k.charges) lent 0 0
  unfolding answer
  light-performed lent =
      record { chip_is = rw light-step; events_are = rw light-step; value_is = refl; value_small = lit< tt; count_is = rw light-step }

  pub light-accepted : (words : ℕ) → last_second t ≡ false → ltb (raw t) (raw k.flash.pulse_since) ≡ false
      → call_refusal (WriteRegister a v) t words k.flash ≡ 0
  unfolding call_refusal
  light-accepted words e f = rw (e, f, shut, and-false)
