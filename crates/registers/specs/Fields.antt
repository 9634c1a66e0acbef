-- One field of the registers changed, the others as they were.
-- Assumes nothing.
use Rattle.std.specs.Prelude.{◌≡◌, ℕ, Bool, List, [], ◌∷◌, set, Option}
use Rattle.time.specs.declared.Time.{Time}
use Rattle.registers.specs.declared.Registers.{Registers}
use Rattle.control.specs.declared.Supply.{Supply}
use Rattle.control.specs.declared.Mode.{Mode}
use Rattle.control.specs.declared.PendingSense.{PendingSense}

abbrev pub with_control : ℕ → Registers → Registers
with_control x r = record r { control = x }

abbrev pub with_error : Bool → Registers → Registers
with_error x r = record r { error = x }

abbrev pub with_erase : ℕ → Registers → Registers
with_erase x r = record r { erase = x }

abbrev pub with_enabled : Bool → Registers → Registers
with_enabled x r = record r { enabled = x }

abbrev pub with_power_down_disabled : Bool → Registers → Registers
with_power_down_disabled x r = record r { power_down_disabled = x }

abbrev pub with_latch : List ℕ → Registers → Registers
with_latch x r = record r { latch = x }

abbrev pub with_page : ℕ → Registers → Registers
with_page x r = record r { page = x }

abbrev pub with_supply : Supply → Registers → Registers
with_supply x r = record r { supply = x }

abbrev pub with_oscillator : Bool → Registers → Registers
with_oscillator x r = record r { oscillator = x }

abbrev pub with_mode : Mode → Registers → Registers
with_mode x r = record r { mode = x }

abbrev pub with_module : Bool → Registers → Registers
with_module x r = record r { «module» = x }

abbrev pub with_ready : Time → Registers → Registers
with_ready x r = record r { ready = x }

abbrev pub with_swe_ready : Time → Registers → Registers
with_swe_ready x r = record r { swe_ready = x }

abbrev pub with_program_ready : Time → Registers → Registers
with_program_ready x r = record r { program_ready = x }

abbrev pub with_erase_ready : Time → Registers → Registers
with_erase_ready x r = record r { erase_ready = x }

abbrev pub with_recovery : Time → Registers → Registers
with_recovery x r = record r { recovery = x }

abbrev pub with_verify_ready : Time → Registers → Registers
with_verify_ready x r = record r { verify_ready = x }

abbrev pub with_verify_pending : Option PendingSense → Registers → Registers
with_verify_pending x r = record r { verify_pending = x }

-- ---- what is claimed of each

-- a field's value, and all fields in the struct's order
pub data Value : Type 0 where
  number : ℕ → Value
  flag : Bool → Value
  bytes : List ℕ → Value
  supply : Supply → Value
  mode : Mode → Value
  time : Time → Value
  pending : Option PendingSense → Value

abbrev pub fields_of : Registers → List Value
fields_of r =
    number r.control ∷ flag r.error ∷ number r.erase ∷ flag r.enabled ∷ flag r.power_down_disabled ∷ bytes r.latch
    ∷ number r.page ∷ supply r.supply ∷ flag r.oscillator ∷ mode r.mode ∷ flag r.«module» ∷ time r.ready ∷ time r.swe_ready
    ∷ time r.program_ready ∷ time r.erase_ready ∷ time r.recovery ∷ time r.verify_ready ∷ pending r.verify_pending ∷ []

-- Its field, the k-th, is what it was set to, and every other is as it was; with its own value nothing changes; the last change counts.
pub record Changes {A : Type 0} (k : ℕ) (value : A → Value) (field : Registers → A) (put : A → Registers → Registers) : Type 0 where
  pub alone : (x : A) (r : Registers) → fields_of (put x r) ≡ set (fields_of r) k (value x)
  pub sets : (x : A) (r : Registers) → field (put x r) ≡ x
  pub keeps : (r : Registers) → put (field r) r ≡ r
  pub lasts : (x y : A) (r : Registers) → put x (put y r) ≡ put x r
