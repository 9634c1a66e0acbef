-- What is asked of each value that the registers hold, every rule of a call keeps, if the few values that a call sets anew meet it: each
-- rule sets a field to one of those or leaves it. Whether a state is in range and whether it is allowed are two such questions.
-- Assumes nothing.
use mathlib.Core.Bool.{Bool, cond, ◌&&◌, ◌||◌}
use mathlib.Core.List.{List}
use Prim.Native.Nat.{ℕ, ◌*◌, ◌/◌, ◌%◌, ◌<◌}
use native.Mathlib.Omega.{arith}
use lib.Dec.{ltb, leb, eqb}
use lib.ListN.{set}
use Rattle.lists.proofs.Bools.{either}
use Rattle.time.specs.declared.Time.{Time}
use Rattle.time.specs.Raw.{raw, later, after}
use Rattle.control.specs.declared.Mode.{Mode}
use Rattle.control.specs.declared.Supply.{Supply}
use Rattle.control.specs.declared.PendingSense.{PendingSense}
use Rattle.std.specs.Prelude.{Option, Some, None}
use Rattle.cell.specs.declared.Direction.{Direction}
use Rattle.cell.specs.declared.Direction.TheVariants.{Program, Erase}
use Rattle.control.specs.Bits.{FENR, FLMCR1, FLPWCR, EBR1, SWE, ESU, PSU, EV, PV, E, P, has, low, falls, rises, verifies, control_value, erase_value, bit_count}
use Rattle.control.specs.Waits.{reached, raised, renewed, recovery_after, verify_ready_after, trip_wait}
use Rattle.control.specs.Verify.{sense_due}
use Rattle.control.specs.Supplies.{supplied, starts, supply_in}
use Rattle.registers.specs.declared.Registers.{Registers}
use Rattle.registers.specs.declared.Call.{Call}
use Rattle.registers.specs.declared.Call.TheVariants.{WriteRegister, Write8, Read8, Read16, Protect, Reset, PowerOff, Environment}
use Rattle.registers.specs.Fields.{with_erase, with_verify_pending}
use Rattle.registers.specs.Access.{settled, control_set, register_set, write_register}
use Rattle.registers.specs.Latch.{takes_data, latched, data_taken, data_write, write8}
use Rattle.registers.specs.Pulses.{pulse, is_open, normal, tripped, protect, read8}
use Rattle.registers.specs.Environment.{blank_latch, cleared, reset, power_off, unchanged, clears, environment_set, environment}
use Rattle.registers.specs.Calls.{next}
use Rattle.registers.specs.declared.Pulse.{Pulse}
use Rattle.registers.proofs.Laws.{read16-read8}

-- what is asked of each sort of value
pub record Ask : Type 1 where
  pub control : ℕ → Type 0
  pub erase : ℕ → Type 0
  pub latch : List ℕ → Type 0
  pub page : ℕ → Type 0
  pub time : Time → Type 0
  pub pending : Option PendingSense → Type 0

-- and that these values meet it
pub record Held (q : Ask) (c e : ℕ) (l : List ℕ) (p : ℕ) (t sw pr er rc vr : Time) (n : Option PendingSense) : Type 0 where
  pub control : q.control c
  pub erase : q.erase e
  pub latch : q.latch l
  pub page : q.page p
  pub ready : q.time t
  pub swe_ready : q.time sw
  pub program_ready : q.time pr
  pub erase_ready : q.time er
  pub recovery : q.time rc
  pub verify_ready : q.time vr
  pub pending : q.pending n

abbrev pub HeldBy : Ask → Registers → Type 0
HeldBy q r =
    Held q r.control r.erase r.latch r.page r.ready r.swe_ready r.program_ready r.erase_ready r.recovery r.verify_ready r.verify_pending

-- what any call sets anew, whatever its arguments
pub record Anew (q : Ask) (now : Time) : Type 0 where
  pub control : (v : ℕ) → q.control (v % 128)
  pub erase : q.erase 0
  pub latch : q.latch blank_latch
  pub page : q.page 0
  pub present : q.time now
  pub wait : (n : ℕ) → n < 1000000 → q.time (after now n)
  pub pending : q.pending None

-- and by its arguments
pub record Data (q : Ask) (a v : ℕ) : Type 0 where
  pub latch : (xs : List ℕ) (i : ℕ) → q.latch xs → q.latch (set xs i v)
  pub page : q.page (a / 128 * 128)
  pub pending : (t : Time) → q.time t → q.pending (Some (record { address = a / 4 * 4; at = t }))

abbrev pub Given : Ask → Call → Type 0
Given q (WriteRegister a v) = q.erase v
Given q (Write8 a v) = Data q a v
Given q (Read8 a) = Unit
Given q (Read16 a) = Unit
Given q Protect = Unit
Given q Reset = Unit
Given q PowerOff = Unit
Given q (Environment mode modul oscillator) = Unit

module _ (q : Ask) (now : Time) (s : Anew q now) where
  -- ---- times

  later-held : {t u : Time} → q.time t → q.time u → q.time (later t u)
  unfolding later
  later-held {t} {u} h k = either q.time (ltb (raw t) (raw u)) k h

  raised-held : (b : Bool) (n : ℕ) {t : Time} → n < 1000000 → q.time t → q.time (raised b n now t)
  raised-held b n l h = either q.time b (later-held h (s.wait n l)) h

  renewed-held : (b : Bool) (n : ℕ) {t : Time} → n < 1000000 → q.time t → q.time (renewed b n now t)
  renewed-held b n l h = either q.time b (s.wait n l) h

  recovery-held : (old new : ℕ) {t : Time} → q.time t → q.time (recovery_after old new now t)
  unfolding recovery_after
  recovery-held old new h =
      raised-held (falls SWE old new) 100 (omega arith)
      (raised-held (falls EV old new) 4 (omega arith)
      (raised-held (falls PV old new) 2 (omega arith)
      (raised-held (falls E old new || falls ESU old new) 10 (omega arith)
      (raised-held (falls P old new || falls PSU old new) 5 (omega arith) h))))

  verify-held : (old new : ℕ) {t : Time} → q.time t → q.time (verify_ready_after old new now t)
  unfolding verify_ready_after
  verify-held old new h =
      renewed-held (rises PV old new || rises EV old new) (cond (has new EV) 20 4) (either (λ n. n < 1000000) (has new EV) (omega arith) (omega arith)) h

  -- ---- rules

  pending-held : (r : Registers) (n : Option PendingSense) → q.pending n → HeldBy q r → HeldBy q (with_verify_pending n r)
  pending-held r n k h =
      record { control = h.control; erase = h.erase; latch = h.latch; page = h.page; ready = h.ready; swe_ready = h.swe_ready; program_ready = h.program_ready; erase_ready = h.erase_ready; recovery = h.recovery; verify_ready = h.verify_ready; pending = k }

  settled-held : (r : Registers) → HeldBy q r → HeldBy q (settled now r)
  unfolding settled
  settled-held r h = either (HeldBy q) (sense_due r.verify_pending r.supply now) (pending-held r None s.pending h) h

  control-held : (v : ℕ) (r : Registers) → HeldBy q r → HeldBy q (control_set (control_value v) now r)
  unfolding control_set
  control-held v r h =
      let new = control_value v in
      record { control = either q.control (has v SWE) (s.control v) (s.control 0); erase = either q.erase (has new SWE) h.erase s.erase; latch = h.latch; page = h.page; ready = h.ready; swe_ready = renewed-held (rises SWE r.control new) 1 (omega arith) h.swe_ready; program_ready = renewed-held (rises PSU r.control new) 50 (omega arith) h.program_ready; erase_ready = renewed-held (rises ESU r.control new) 100 (omega arith) h.erase_ready; recovery = recovery-held r.control new h.recovery; verify_ready = verify-held r.control new h.verify_ready; pending = either q.pending (eqb (low r.control) (low new)) h.pending s.pending }

  erase-held : (v : ℕ) (r : Registers) → q.erase v → HeldBy q r → HeldBy q (with_erase v r)
  erase-held v r k h =
      record { control = h.control; erase = k; latch = h.latch; page = h.page; ready = h.ready; swe_ready = h.swe_ready; program_ready = h.program_ready; erase_ready = h.erase_ready; recovery = h.recovery; verify_ready = h.verify_ready; pending = h.pending }

  register-held : (a v : ℕ) (r : Registers) → q.erase v → HeldBy q r → HeldBy q (register_set a v now r)
  unfolding register_set
  register-held a v r k h =
      either (HeldBy q) (eqb a FLMCR1) (control-held v r h)
      (either (HeldBy q) (eqb a FLPWCR) h
      (either (HeldBy q) (eqb a EBR1)
      (either (HeldBy q) (has r.control SWE) (erase-held (erase_value v) r (either q.erase (leb (bit_count v) 1) k s.erase) h) h)
      h))

  write-held : (a v : ℕ) (r : Registers) → q.erase v → HeldBy q r → HeldBy q (write_register a v now r)
  unfolding write_register
  write-held a v r k h =
      either (HeldBy q) (eqb a FENR) h
      (either (HeldBy q) r.enabled (register-held a v (settled now r) k (settled-held r h)) h)

  latched-held : (a v : ℕ) (r : Registers) → Data q a v → HeldBy q r → HeldBy q (latched a v r)
  latched-held a v r d h =
      record { control = h.control; erase = h.erase; latch = d.latch r.latch (a % 128) h.latch; page = d.page; ready = h.ready; swe_ready = h.swe_ready; program_ready = h.program_ready; erase_ready = h.erase_ready; recovery = h.recovery; verify_ready = h.verify_ready; pending = h.pending }

  data-held : (a v : ℕ) (r : Registers) → Data q a v → HeldBy q r → HeldBy q (data_write a v now r)
  unfolding data_write data_taken
  data-held a v r d h =
      either (HeldBy q) (takes_data now r)
      (either (HeldBy q) (eqb (low r.control) 0 && reached now r.recovery) (latched-held a v r d h)
      (either (HeldBy q) (verifies r.control)
      (pending-held r _
      (d.pending _ (later-held (later-held (later-held (s.wait 2 (omega arith)) h.verify_ready) h.recovery) h.ready)) h)
      h))
      h

  trip-short : (d : Direction) → trip_wait d < 1000000
  trip-short Program = omega arith
  trip-short Erase = omega arith

  tripped-held : (o : Option Pulse) (r : Registers) → HeldBy q r → HeldBy q (tripped o now r)
  tripped-held None r h = h
  tripped-held (Some p) r h =
      record { control = h.control; erase = h.erase; latch = h.latch; page = h.page; ready = h.ready; swe_ready = h.swe_ready; program_ready = h.program_ready; erase_ready = h.erase_ready; recovery = later-held h.recovery (s.wait (trip_wait p.direction) (trip-short p.direction)); verify_ready = h.verify_ready; pending = h.pending }

  read_held : (r : Registers) → HeldBy q r → HeldBy q (read8 now r)
  unfolding read8
  read_held r h = either (HeldBy q) (normal now r) h (tripped-held (pulse r) (settled now r) (settled-held r h))

  protect-held : (r : Registers) → HeldBy q r → HeldBy q (protect now r)
  unfolding protect
  protect-held r h = either (HeldBy q) (is_open (pulse r)) (tripped-held (pulse r) (settled now r) (settled-held r h)) h

  cleared-held : (r : Registers) → HeldBy q r → HeldBy q (cleared r)
  cleared-held r h =
      record { control = s.control 0; erase = s.erase; latch = h.latch; page = h.page; ready = h.ready; swe_ready = h.swe_ready; program_ready = h.program_ready; erase_ready = h.erase_ready; recovery = h.recovery; verify_ready = h.verify_ready; pending = s.pending }

  reset-held : (r : Registers) → HeldBy q r → HeldBy q (reset now r)
  unfolding reset
  reset-held r h =
      let k = cleared-held (settled now r) (settled-held r h) in
      record { control = k.control; erase = k.erase; latch = s.latch; page = s.page; ready = k.ready; swe_ready = k.swe_ready; program_ready = k.program_ready; erase_ready = k.erase_ready; recovery = s.present; verify_ready = k.verify_ready; pending = k.pending }

  off-held : (r : Registers) → HeldBy q r → HeldBy q (power_off now r)
  unfolding power_off
  off-held r h = reset-held r h

  environment_set-held : (mode : Mode) (modul oscillator : Bool) (supply : Supply) (r : Registers) → HeldBy q r
      → HeldBy q (environment_set mode modul oscillator supply now r)
  unfolding environment_set
  environment_set-held mode modul oscillator supply r h =
      record { control = h.control; erase = h.erase; latch = h.latch; page = h.page; ready = renewed-held (supplied supply r.supply) 20 (omega arith) h.ready; swe_ready = renewed-held (starts oscillator r.oscillator) 1 (omega arith) h.swe_ready; program_ready = renewed-held (starts oscillator r.oscillator) 50 (omega arith) h.program_ready; erase_ready = renewed-held (starts oscillator r.oscillator) 100 (omega arith) h.erase_ready; recovery = h.recovery; verify_ready = h.verify_ready; pending = h.pending }

  environment-held : (mode : Mode) (modul oscillator : Bool) (r : Registers) → HeldBy q r → HeldBy q (environment mode modul oscillator now r)
  unfolding environment
  environment-held mode modul oscillator r h =
      either (HeldBy q) (unchanged mode modul oscillator r) h
      (environment_set-held mode modul oscillator (supply_in mode modul r.power_down_disabled) _
      (either (HeldBy q) (clears mode modul r) (cleared-held (settled now r) (settled-held r h)) (settled-held r h)))

  pub next-held : (c : Call) (r : Registers) → Given q c → HeldBy q r → HeldBy q (next c now r)
  unfolding next write8
  next-held (WriteRegister a v) r g h = write-held a v r g h
  next-held (Write8 a v) r g h = data-held a v (settled now r) g (settled-held r h)
  next-held (Read8 a) r g h = read_held r h
  next-held (Read16 a) r g h = rw (read16-read8 now r) (read_held r h)
  next-held Protect r g h = protect-held r h
  next-held Reset r g h = reset-held r h
  next-held PowerOff r g h = off-held r h
  next-held (Environment mode modul oscillator) r g h = environment-held mode modul oscillator r h
