-- A register write does with a pending sense what it does without one: the sense stays where control's change leaves it.
-- Assumes nothing.
use Rattle.std.proofs.Common.{◌≡◌, ℕ, Bool, true, false, refl, sym, ap, ◌∙◌}
use Rattle.std.specs.Prelude.{cond, not, ◌&&◌, eqb, Option, None}
use Rattle.std.proofs.lemmas.Grind.{common_steps}
use Rattle.time.specs.declared.Time.{Time}
use Rattle.control.specs.declared.PendingSense.{PendingSense}
use Rattle.control.specs.Bits.{FENR, FLMCR1, FLPWCR, EBR1, FLAG, SWE, has, control_value, erase_value}
use Rattle.control.specs.Verify.{sense_due, pending_after}
use Rattle.registers.specs.declared.Registers.{Registers}
use Rattle.registers.specs.Fields.{with_enabled, with_erase, with_power_down_disabled, with_verify_pending}
use Rattle.registers.specs.Access.{settled, control_set, register_set, write_register}
use Rattle.access.specs.declared.Settings.{Settings}
use Rattle.access.specs.Settings.{settings_of, with_settings, Changed, put_back}
use native.Mathlib.Omega.{arith}
use mathlib.Core.Bool.{true≢false}
use Rattle.std.proofs.lemmas.Bool.{and_parts}
use borrow.Author.Tests.{not-true}

abbrev bare : Registers → Registers
bare r = with_verify_pending None r

-- control that stays drops nothing
stays : (c : ℕ) (p : Option PendingSense) → pending_after c c p ≡ p
stays c p = grind (arith, common_steps)

-- settings that a rule made of those of r, put back into r
pub back : (rule : Registers → Registers) (r q : Registers) (s after : Settings) → q ≡ put_back r (with_settings after r) → s ≡ settings_of r
    → Changed rule s after → q ≡ put_back r (rule (bare r))
back rule r q s after e is changed = e ∙ ap (put_back r) (changed r ∙ ap (λ s. rule (with_settings s r)) is)

pub control-kept : (new : ℕ) (t : Time) (r : Registers) → put_back r (control_set new t (bare r)) ≡ control_set new t r
unfolding control_set
control-kept new t r = refl

module _ (a v : ℕ) (t : Time) where
  abbrev set : Bool → Bool → Bool → Bool → Registers → Registers
  set x y z w q =
      cond x (control_set (control_value v) t q) (cond y (with_power_down_disabled (has v FLAG) q) (cond z (cond w (with_erase (erase_value v) q) q) q))

  set-kept : (r : Registers) → put_back r (register_set a v t (bare r)) ≡ register_set a v t r
  unfolding register_set
  set-kept r = by (eqb a FLMCR1) (eqb a FLPWCR) (eqb a EBR1) (has r.control SWE)
    where
      by : (x y z w : Bool) → put_back r (set x y z w (bare r)) ≡ set x y z w r
      by true y z w = control-kept (control_value v) t r
      by false true z w = ap (λ p. with_verify_pending p (with_power_down_disabled (has v FLAG) r)) (stays r.control r.verify_pending)
      by false false true true = ap (λ p. with_verify_pending p (with_erase (erase_value v) r)) (stays r.control r.verify_pending)
      by false false true false = ap (λ p. with_verify_pending p r) (stays r.control r.verify_pending)
      by false false false w = ap (λ p. with_verify_pending p r) (stays r.control r.verify_pending)

  -- the three ways of a write
  own : (q : Registers) → eqb a FENR ≡ true → write_register a v t q ≡ with_enabled (has v FLAG) q
  unfolding write_register
  own q f = rw f refl

  ignored : (q : Registers) → eqb a FENR ≡ false → q.enabled ≡ false → write_register a v t q ≡ q
  unfolding write_register
  ignored q f e = rw (f, e) refl

  let-in : (q : Registers) → eqb a FENR ≡ false → q.enabled ≡ true → write_register a v t q ≡ register_set a v t (settled t q)
  unfolding write_register
  let-in q f e = rw (f, e) refl

  settled-enabled : (r : Registers) → (settled t r).enabled ≡ r.enabled
  unfolding settled
  settled-enabled r = by (sense_due r.verify_pending r.supply t)
    where
      by : (d : Bool) → (cond d (bare r) r).enabled ≡ r.enabled
      by true = refl
      by false = refl

  bare-settled : (q : Registers) → settled t (bare q) ≡ bare q
  unfolding settled
  bare-settled q = refl

  pub settling : (r s : Registers) → s ≡ settled t r → (not (eqb a FENR) && r.enabled) ≡ true → put_back s (write_register a v t (bare s)) ≡ write_register a v t r
  settling r s is h =
      let both = and_parts (not (eqb a FENR)) r.enabled h in
      let f = not-true _ both.0 in
      let e : s.enabled ≡ true = ap (λ (q : Registers). q.enabled) is ∙ settled-enabled r ∙ both.1 in
      ap (put_back s) (let-in (bare s) f e ∙ ap (register_set a v t) (bare-settled s)) ∙ set-kept s ∙ ap (register_set a v t) is ∙ sym (let-in r f both.1)

  pub not-settling : (r s : Registers) → s ≡ r → (not (eqb a FENR) && r.enabled) ≡ false → put_back s (write_register a v t (bare s)) ≡ write_register a v t r
  not-settling r s is h = ap (λ q. put_back q (write_register a v t (bare q))) is ∙ by (eqb a FENR) r.enabled refl refl h
    where
      by : (f e : Bool) → eqb a FENR ≡ f → r.enabled ≡ e → (not f && e) ≡ false → put_back r (write_register a v t (bare r)) ≡ write_register a v t r
      by true e is en h =
          ap (put_back r) (own (bare r) is) ∙ ap (λ p. with_verify_pending p (with_enabled (has v FLAG) r)) (stays r.control r.verify_pending) ∙ sym (own r is)
      by false true is en h = absurd (true≢false h)
      by false false is en h = ap (put_back r) (ignored (bare r) is en) ∙ ap (λ p. with_verify_pending p r) (stays r.control r.verify_pending) ∙ sym (ignored r is en)
