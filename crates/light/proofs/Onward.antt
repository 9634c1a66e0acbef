-- A light call leaves the rest of a replay to the state with new settings, whatever memory is lent. Assumes nothing.
use mathlib.Core.Path.{◌≡◌, refl, sym}
use mathlib.Core.Bool.{true, false}
use mathlib.Core.List.{List}
use Prim.Native.Nat.{ℕ, ◌+◌, ◌*◌, ◌/◌, ◌^◌, ◌<◌}
use native.Mathlib.Omega.{arith}
use lib.ListN.{length}
use Rattle.time.specs.declared.Time.{Time}
use Rattle.lists.specs.Lists.{at}
use Rattle.registers.specs.Access.{write_register}
use Rattle.flash.specs.declared.Flash.{Flash}
use Rattle.flash.specs.Chip.{chip}
use Rattle.lent.specs.declared.Request.TheVariants.{WriteRegister}
use Rattle.lent.specs.Held.{Ready}
use Rattle.lent.proofs.Holding.{replied-done}
use Rattle.access.specs.declared.Settings.{Settings}
use Rattle.access.specs.Settings.{Changed}
use Rattle.listing.specs.Calls.{first_in, second_in, request_by, request_in}
use Rattle.listing.specs.Replaying.{stops}
use Rattle.listing.specs.Held.{Onward}
use Rattle.registers.specs.Pulses.{may_pulse}
use Rattle.light.specs.Writes.{lit, is_light, since_after}
use Rattle.listing.proofs.Holding.{Called, called}
use Rattle.light.proofs.Lights.{closed-pulse, Says, light-says, light-performed, light-accepted}
use Rattle.listing.proofs.Steps.{step-on}

-- a number below the first kind's end is a register write
is-write : (what : ℕ) → what < 2 ^ 24 → request_in what ≡ WriteRegister (first_in what) (second_in what)
unfolding request_in request_by
is-write what h = let z : what / 2 ^ 24 ≡ 0 = omega arith in rw z

module _ (end i : ℕ) (calls : List ℕ) (f : Flash) (s s' : Settings) (since since' : Time) (h : i < end) (small : (n : ℕ) → at calls n < 2 ^ 64) where
  abbrev what : ℕ
  what = at calls (3 * i)

  abbrev t : Time
  t = record { 0 = at calls (3 * i + 1); 1 = at calls (3 * i + 2) }

  module _ (e : is_light (may_pulse f.registers) s.control since what t ≡ true)
      (changed : Changed (write_register (first_in what) (second_in what) t) s s') (settled : since' ≡ since_after s.enabled (first_in what) since t) where
    says : Says (may_pulse f.registers) s.control since what t
    says = light-says (may_pulse f.registers) s.control since what t e

    light-called : (lent array charges : List ℕ) → Ready (chip (lit f s since) array charges)
        → Called (request_in what) t lent (chip (lit f s since) array charges)
        (record { number = 0; value = 0; left = chip (lit f s' since') array charges; events = lent; count = 0 })
    light-called lent array charges r =
        let k = chip (lit f s since) array charges in
        let shut = closed-pulse (lit f s since).registers says.opens_none in
        let ok = light-accepted (first_in what) (second_in what) t k shut refl (length lent) says.not_last says.not_early in
        let p = light-performed (first_in what) (second_in what) t k shut refl lent in
        rw (is-write what says.a_write, changed f.registers, settled)
        (called k r (WriteRegister (first_in what) (second_in what)) t lent (omega arith, omega arith) (record { whole = small _; part = small _ })
        (replied-done (WriteRegister (first_in what) (second_in what)) t lent k (sym ok) (record { value = 0; count = 0 }) p))

    goes_on : stops (request_in what) 0 0 ≡ false
    goes_on = rw (is-write what says.a_write)

    pub onward-light : Onward end calls i (lit f s since) (i + 1) (lit f s' since')
    onward-light =
        record {
          later = omega arith;
          ready = λ array charges r. (light-called calls array charges r).ready;
          same = λ lent array charges r. step-on end i calls lent _ _ h (light-called lent array charges r) goes_on;
        }
