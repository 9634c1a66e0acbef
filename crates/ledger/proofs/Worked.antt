-- The worked instants of document 01 hold of the definitions: the numbers by computation, the erase writes because settling leaves control
-- as it is, and (h) by `Programmed`. Assumes nothing.
use mathlib.Core.Path.{◌≡◌, refl, ap, ◌∙◌}
use mathlib.Core.Bool.{true}
use Prim.Native.Nat.{ℕ}
use Rattle.time.specs.declared.Time.{Time}
use Rattle.cell.specs.Cell.{class_of, limit_of, exposed, moved}
use Rattle.registers.specs.declared.Registers.{Registers}
use Rattle.control.specs.Bits.{EBR1, SWE, has, erase_value}
use Rattle.registers.specs.Access.{settled, register_set, write_register}
use Rattle.control.specs.Blocks.{erase_range}
use Rattle.registers.proofs.Laws.{settled-fields}
use Rattle.std.proofs.lemmas.Bool.{cond-true}
use Rattle.ledger.specs.Worked.{Worked}
use Rattle.ledger.proofs.Programmed.{programmed}

-- a write to F023 while enabled and with SWE stores the erase value
erase-stored : (v : ℕ) (now : Time) (r : Registers) → r.enabled ≡ true → has r.control SWE ≡ true → (write_register EBR1 v now r).erase ≡ erase_value v
unfolding write_register register_set
erase-stored v now r e s =
    let t : has (settled now r).control SWE ≡ true = ap (λ (x : Registers). has x.control SWE) (settled-fields now r) ∙ s in
    rw (cond-true r.enabled _ _ e, cond-true (has (settled now r).control SWE) _ _ t)

pub worked : Worked
unfolding class_of limit_of exposed moved erase_range
worked =
    record {
      a = (refl, refl, refl, refl);
      b = refl;
      c = refl;
      d = (refl, refl);
      e = (refl, refl);
      f = λ latched. (refl, refl);
      g = λ now r e s. (erase-stored 3 now r e s, erase-stored 64 now r e s, refl);
      h = programmed;
    }
