-- `flash_end::end_pulse` meets its contract: no word for the same pulse, for none or for an empty range, else one. Assumes nothing.
use denote.Enum.Bare.{sameb}
use Rattle.std.specs.Prelude.{Option, Some, None}
use Rattle.std.specs.Option.{option_eq}
use Rattle.cell.specs.declared.Direction.{Direction}
use Rattle.cell.specs.declared.Direction.TheVariants.{Program, Erase}
use Rattle.registers.specs.declared.Pulse.{Pulse}
use Rattle.cell.specs.contracts.Direction.{the_type}
use Rattle.registers.specs.contracts.PulsePartialEq.TheImpl as derived
use borrow.Author.Tests.{eq-eqb, ne_eqb}
use mathlib.Core.Bool.{Bool, true, false, ◌&&◌}
use lib.Dec.{eqb}
use mathlib.Core.Path.{◌≡◌, refl, sym, ◌∙◌}
use Rattle.settle.specs.Settling.{same_direction, same_time, same_pulse, ended, end_of}
use native.Mathlib.Omega.{arith}
use Rattle.flash_end.proofs.end_pulse.Goals as goal

-- the derived equality of two pulses is the definition's
together : (a b c d : Bool) → (a && (b && (c && d))) ≡ (a && b && c && d)
together true true true d = refl
together true true false d = refl
together true false c d = refl
together false b c d = refl

same : (a b : Option Pulse) → option_eq derived.eq-value.it a b ≡ same_pulse a b
unfolding same_pulse
same None None = refl
same None (Some q) = refl
same (Some p) None = refl
same (Some p) (Some q) =
    by p.direction q.direction
    ∙ together (same_direction p.direction q.direction) (eqb p.first q.first) (eqb p.pages q.pages) (same_time p.ready q.ready)
  where
    by : (d e : Direction) → (sameb the_type d e && (eqb p.first q.first && (eqb p.pages q.pages && same_time p.ready q.ready)))
        ≡ (same_direction d e && (eqb p.first q.first && (eqb p.pages q.pages && same_time p.ready q.ready)))
    by Program Program = refl
    by Program Erase = refl
    by Erase Program = refl
    by Erase Erase = refl

pub returns-then-eq : goal.returns-then-eq
returns-then-eq c =
    let x = c.args in
    rw (sym (c.eq.ensures ∙ same x.old x.new) ∙ c.if-eq.true) (refl, omega arith)

pub returns-in-Some : goal.returns-in-Some
unfolding ended end_of
returns-in-Some c =
    let x = c.args in
    rw (sym (c.eq.ensures ∙ same x.old x.new) ∙ c.if-eq.false, c.in-Some.is, ne_eqb _ 0 c.if-pulse-ne0.true) (rw c.end_word.ensures, omega arith)

pub returns-in_default : goal.returns-in_default
unfolding ended end_of
returns-in_default c =
    let x = c.args in
    rw (sym (c.eq.ensures ∙ same x.old x.new) ∙ c.if-eq.false, c.in-Some.is, eq-eqb _ 0 c.if-pulse-ne0.false) (refl, omega arith)

pub returns-in_default-2 : goal.returns-in_default-2
unfolding ended
returns-in_default-2 c =
    let x = c.args in
    rw (sym (c.eq.ensures ∙ same x.old x.new) ∙ c.if-eq.false, c.in_default.is) (refl, omega arith)
