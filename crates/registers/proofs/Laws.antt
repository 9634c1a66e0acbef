-- Laws of the registers that later proofs cite: settling changes only the pending sense, a call that does not settle leaves the
-- pulse, an open pulse keeps the latch, tripping closes the pulse, and a word read does what a byte read does. Each goes by cases on
-- the tests of the definitions, on most paths by computation alone. Assumes nothing.
use mathlib.Core.Path.{◌≡◌, refl, ap, ◌∙◌}
use mathlib.Core.Bool.{Bool, true, false, cond, not, ◌&&◌, true≢false}
use mathlib.Core.List.{List}
use Prim.Native.Nat.{ℕ, ◌%◌}
use native.Mathlib.Omega.{arith}
use lib.Dec.{eqb}
use borrow.Author.Tests.{eqb-true, not-false}
use Rattle.lists.proofs.Bools.{either-way}
use Rattle.time.specs.declared.Time.{Time}
use Rattle.registers.specs.declared.Registers.{Registers}
use Rattle.control.specs.declared.Mode.{Mode}
use Rattle.std.specs.Prelude.{None, Option, Some}
use Rattle.registers.specs.declared.Pulse.{Pulse}
use Rattle.registers.specs.declared.Call.{Call}
use Rattle.registers.specs.declared.Call.TheVariants.{WriteRegister, Write8, Read8, Read16, Protect, Reset, PowerOff, Environment}
use Rattle.registers.specs.Fields.{with_enabled, with_verify_pending}
use Rattle.control.specs.Bits.{FENR, FLMCR1, FLPWCR, EBR1, FLAG, SWE, has, low, verifies}
use Rattle.control.specs.Waits.{reached}
use Rattle.control.specs.Verify.{sense_due}
use Rattle.registers.specs.Latch.{latched, sense_pending, takes_data, data_taken, data_write, write8}
use Rattle.registers.specs.Access.{settled, register_set, write_register, control_set}
use Rattle.registers.specs.Pulses.{powered, pulse, is_open, normal, tripped, protect, read8, read16}
use Rattle.registers.specs.Environment.{unchanged, clears, reset, power_off, environment_set, environment}
use Rattle.registers.specs.Calls.{settles, next}

-- a test between a value and itself
-- ---- settling

-- settling changes the pending sense and no other field; `ap` of a field to this says it of that field
pub settled-fields : (now : Time) (r : Registers) → settled now r ≡ with_verify_pending (settled now r).verify_pending r
unfolding settled
settled-fields now r = by (sense_due r.verify_pending r.supply now)
  where
    by : (b : Bool) → cond b (with_verify_pending None r) r ≡ with_verify_pending (cond b (with_verify_pending None r) r).verify_pending r
    by true = refl
    by false = refl

pub settled-latch : (now : Time) (r : Registers) → (settled now r).latch ≡ r.latch
settled-latch now r = ap (λ (x : Registers). x.latch) (settled-fields now r)

pub settled-pulse : (now : Time) (r : Registers) → pulse (settled now r) ≡ pulse r
unfolding pulse
settled-pulse now r = ap pulse (settled-fields now r)

-- after a settle no sense is due
pub settled-due : (now : Time) (r : Registers) → sense_due (settled now r).verify_pending (settled now r).supply now ≡ false
unfolding settled
settled-due now r = by (sense_due r.verify_pending r.supply now) refl
  where
    by : (b : Bool) → sense_due r.verify_pending r.supply now ≡ b → sense_due (cond b (with_verify_pending None r) r).verify_pending (cond b (with_verify_pending None r) r).supply now ≡ false
    by true e = refl
    by false e = e

-- ---- the pulse

-- no pulse is open while control's low four bits are 0
pub low-closed : (r : Registers) → low r.control ≡ 0 → pulse r ≡ None
unfolding pulse
low-closed r e = rw e (either-way (powered r) None)

-- nor while reading is normal
pub normal-closed : (now : Time) (r : Registers) → normal now r ≡ true → pulse r ≡ None
unfolding normal
normal-closed now r e =
    let z : r.control % 64 ≡ 0 = eqb-true (r.control % 64) 0 (by (eqb (r.control % 64) 0) _ _ _ e) in
    low-closed r (omega arith)
  where
    by : (a b c d : Bool) → (a && b && c && d) ≡ true → a ≡ true
    by true b c d e = refl
    by false b c d e = e

-- tripping protection closes the pulse
pub tripped-closed : (now : Time) (r : Registers) → pulse (tripped (pulse r) now r) ≡ None
unfolding pulse
tripped-closed now r = by (pulse r) refl
  where
    by : (o : Option Pulse) → pulse r ≡ o → pulse (tripped o now r) ≡ None
    by None e = e
    by (Some p) e = refl

-- and changes neither the pending sense nor the latch
tripped-due : (o : Option Pulse) (now : Time) (r : Registers) → sense_due (tripped o now r).verify_pending (tripped o now r).supply now ≡ sense_due r.verify_pending r.supply now
tripped-due None now r = refl
tripped-due (Some p) now r = refl

tripped-latch : (o : Option Pulse) (now : Time) (r : Registers) → (tripped o now (settled now r)).latch ≡ r.latch
tripped-latch None now r = settled-latch now r
tripped-latch (Some p) now r = settled-latch now r

-- ---- reading

-- with no pulse open and no sense due a read changes nothing
read8-closed : (now : Time) (r : Registers) → pulse r ≡ None → sense_due r.verify_pending r.supply now ≡ false → read8 now r ≡ r
unfolding read8 settled
read8-closed now r p d = rw (p, d) (either-way (normal now r) r)

-- so the second of two reads changes nothing
pub read8-again : (now : Time) (r : Registers) → read8 now (read8 now r) ≡ read8 now r
unfolding read8
read8-again now r = by (normal now r) refl
  where
    by : (b : Bool) → normal now r ≡ b → read8 now (cond b r (tripped (pulse r) now (settled now r))) ≡ cond b r (tripped (pulse r) now (settled now r))
    by true e = rw e
    by false e =
        read8-closed now (tripped (pulse r) now (settled now r))
        (rw (settled-pulse now r) at (tripped-closed now (settled now r)))
        (tripped-due (pulse r) now (settled now r) ∙ settled-due now r)

-- a word read does what one byte read does
pub read16-read8 : (now : Time) (r : Registers) → read16 now r ≡ read8 now r
unfolding read16 read8
read16-read8 now r = by (normal now r) refl
  where
    by : (b : Bool) → normal now r ≡ b → cond b r (read8 now (read8 now r)) ≡ read8 now r
    by true e = rw e
    by false e = read8-again now r

-- ---- a call that does not settle

-- is a write to F02B, or one while the registers are not enabled
quiet_write : (a v : ℕ) (now : Time) (r : Registers) → (not (eqb a FENR) && r.enabled) ≡ false → pulse (write_register a v now r) ≡ pulse r
unfolding write_register pulse
quiet_write a v now r = by (eqb a FENR) r.enabled
  where
    by : (b e : Bool) → (not b && e) ≡ false → pulse (cond b (with_enabled (has v FLAG) r) (cond e (register_set a v now (settled now r)) r)) ≡ pulse r
    by true e h = refl
    by false true h = absurd (true≢false h)
    by false false h = refl

-- or does nothing; it leaves the pulse as it is
pub quiet : (c : Call) (now : Time) (r : Registers) → settles c now r ≡ false → pulse (next c now r) ≡ pulse r
unfolding settles next protect read8 read16 environment
quiet (WriteRegister a v) now r e = quiet_write a v now r e
quiet (Write8 a v) now r e = absurd (true≢false e)
quiet (Read8 a) now r e = rw (not-false (normal now r) e)
quiet (Read16 a) now r e = rw (not-false (normal now r) e)
quiet Protect now r e = rw e
quiet Reset now r e = absurd (true≢false e)
quiet PowerOff now r e = absurd (true≢false e)
quiet (Environment mode modul oscillator) now r e = rw (not-false (unchanged mode modul oscillator r) e)

-- ---- the latch under an open pulse

-- a pulse that is closed and open
clash : {A : Type 0} (o : Option Pulse) (p : Pulse) → o ≡ None → o ≡ Some p → A
clash o p e f = absurd (let z : ◌≡◌ {A = ℕ} 0 1 = cc in omega arith)

-- the latch of one of two registers
latch-of : (b : Bool) (x y : Registers) (l : List ℕ) → x.latch ≡ l → y.latch ≡ l → (cond b x y).latch ≡ l
latch-of true x y l h k = h
latch-of false x y l h k = k

register-latch : (a v : ℕ) (now : Time) (r : Registers) → (register_set a v now r).latch ≡ r.latch
unfolding register_set control_set
register-latch a v now r =
    latch-of (eqb a FLMCR1) _ _ _ refl
    (latch-of (eqb a FLPWCR) _ _ _ refl (latch-of (eqb a EBR1) _ _ _ (latch-of (has r.control SWE) _ _ _ refl refl) refl))

write-latch : (a v : ℕ) (now : Time) (r : Registers) → (write_register a v now r).latch ≡ r.latch
unfolding write_register
write-latch a v now r =
    latch-of (eqb a FENR) _ _ _ refl
    (latch-of r.enabled _ _ _ (register-latch a v now (settled now r) ∙ settled-latch now r) refl)

-- latching needs control's low four bits 0, with which no pulse is open
data-latch : (a v : ℕ) (now : Time) (r : Registers) (p : Pulse) → pulse r ≡ Some p → (data_write a v now r).latch ≡ r.latch
unfolding data_write data_taken
data-latch a v now r p h = latch-of (takes_data now r) _ _ _ (by (eqb (low r.control) 0) refl) refl
  where
    by : (b : Bool) → eqb (low r.control) 0 ≡ b → (cond (b && reached now r.recovery) (latched a v r) (cond (verifies r.control) (sense_pending a now r) r)).latch ≡ r.latch
    by true e = clash (pulse r) p (low-closed r (eqb-true (low r.control) 0 e)) h
    by false e = latch-of (verifies r.control) _ _ _ refl refl

read-latch : (now : Time) (r : Registers) → (read8 now r).latch ≡ r.latch
unfolding read8
read-latch now r = latch-of (normal now r) _ _ _ refl (tripped-latch (pulse r) now r)

protect-latch : (now : Time) (r : Registers) → (protect now r).latch ≡ r.latch
unfolding protect
protect-latch now r = latch-of (is_open (pulse r)) _ _ _ (tripped-latch (pulse r) now r) refl

environment-latch : (mode : Mode) (modul oscillator : Bool) (now : Time) (r : Registers) → (environment mode modul oscillator now r).latch ≡ r.latch
unfolding environment environment_set
environment-latch mode modul oscillator now r =
    latch-of (unchanged mode modul oscillator r) _ _ _ refl
    (latch-of (clears mode modul r) _ _ _ (settled-latch now r) (settled-latch now r))

reset-closed : (now : Time) (r : Registers) → pulse (reset now r) ≡ None
unfolding reset
reset-closed now r = low-closed (reset now r) refl

off-closed : (now : Time) (r : Registers) → pulse (power_off now r) ≡ None
unfolding power_off reset
off-closed now r = low-closed (power_off now r) refl

-- while the same pulse stays open the latch stays as it is
pub kept : (c : Call) (now : Time) (r : Registers) (p : Pulse) → pulse r ≡ Some p → pulse (next c now r) ≡ Some p → (next c now r).latch ≡ r.latch
unfolding next write8
kept (WriteRegister a v) now r p h k = write-latch a v now r
kept (Write8 a v) now r p h k = data-latch a v now (settled now r) p (settled-pulse now r ∙ h) ∙ settled-latch now r
kept (Read8 a) now r p h k = read-latch now r
kept (Read16 a) now r p h k = rw (read16-read8 now r) (read-latch now r)
kept Protect now r p h k = protect-latch now r
kept Reset now r p h k = clash (pulse (reset now r)) p (reset-closed now r) k
kept PowerOff now r p h k = clash (pulse (power_off now r)) p (off-closed now r) k
kept (Environment mode modul oscillator) now r p h k = environment-latch mode modul oscillator now r
