-- Complaints name the refusal of a call or a look: each check of a call's and of a look's has the number of one. Assumes nothing.
use Prim.Native.Nat.{ℕ, zero, suc}
use mathlib.Core.List.{List}
use mathlib.Core.Bool.{Bool, true, false, cond, ◌||◌, true≢false}
use mathlib.Core.Path.{◌≡◌, refl, sym, ◌∙◌}
use mathlib.Core.Logic.{◌≢◌}
use native.Mathlib.Omega.{arith}
use lib.ListN.{length}
use Rattle.refusal.specs.Refusal.{number, numbered}
use Rattle.time.specs.declared.Time.{Time}
use Rattle.lent.specs.declared.Request.{Request}
use Rattle.lent.specs.Memory.{Memory, is_refusal, past_end, bit_over}
use Rattle.lent.specs.Asked.{outcome_by, outcome, misplaced, checks, refusal}
use Rattle.lent.specs.Looked.{sized_checks, sized_refusal, look_refusal, peek_refusal, charge_refusal}
use Rattle.lent.proofs.Lines.{named-first}
use Rattle.grammar.specs.declared.Looking.{Looking}
use Rattle.grammar.specs.declared.Looking.TheVariants.{Whole, Byte, Cell}
use Rattle.course.specs.Desk.{looked_refusal}
use Rattle.course.specs.Claim.{Complaining}

some : {n k : ℕ} → n ≡ suc k → n ≢ 0
some e z = absurd (omega (arith, sym e ∙ z))

-- a place line that has one check
one : (b : Bool) → is_refusal (cond b 4 0) ≡ true → number (numbered (cond b 4 0)) ≡ cond b 4 0
unfolding numbered
one true h = refl
one false h = absurd (true≢false (sym h))

refusal-named : (q : Request) (t : Time) (words : ℕ) (m : Memory) → refusal q t words m ≢ 0 → number (numbered (refusal q t words m)) ≡ refusal q t words m
unfolding refusal numbered
refusal-named q t words m = named-first (checks q t words m) (λ _. refl, (λ _. refl, (one (misplaced q), (λ _. refl, (λ _. refl, (λ _. refl, tt))))))

number-by : (n : ℕ) (q : Request) (t : Time) (events : List ℕ) (m : Memory) → (outcome_by n q t events m).number ≡ n
unfolding outcome_by
number-by zero q t events m = refl
number-by (suc n) q t events m = refl

calls : (q : Request) (t : Time) (events : List ℕ) (m : Memory) {n : ℕ} → (outcome q t events m).number ≡ suc n
    → number (numbered (outcome q t events m).number) ≡ suc n
unfolding outcome
calls q t events m e =
    let is = number-by (refusal q t (length events) m) q t events m in
    rw is (refusal-named q t (length events) m (some (sym is ∙ e)) ∙ (sym is ∙ e))

look-named : (place : ℕ) → (is_refusal place ≡ true → number (numbered place) ≡ place) → (t : Time) (m : Memory) → look_refusal place t m ≢ 0
    → number (numbered (look_refusal place t m)) ≡ look_refusal place t m
unfolding sized_refusal numbered
look-named place p t m = named-first (sized_checks place t m.bytes (length m.array) (length m.charges)) (λ _. refl, (λ _. refl, (p, (λ _. refl, (λ _. refl, tt)))))

looks : (l : Looking) (t : Time) (m : Memory) {n : ℕ} → looked_refusal l t m ≡ suc n → number (numbered (looked_refusal l t m)) ≡ suc n
unfolding peek_refusal charge_refusal
looks Whole t m e = look-named 0 (λ h. absurd (true≢false (sym h))) t m (some e) ∙ e
looks (Byte a) t m e = look-named _ (one (past_end a)) t m (some e) ∙ e
looks (Cell a bit) t m e = look-named _ (one (past_end a || bit_over bit)) t m (some e) ∙ e

pub complaining : Complaining
complaining = record { calls = calls; looks = looks }
