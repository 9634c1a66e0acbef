-- What holds of a call that passes its checks, from 4 on: its address lies in the array, its time is not in the last second, and the words lent
-- are enough. Assumes nothing.
use mathlib.Core.Path.{◌≡◌, refl}
use mathlib.Core.Bool.{Bool, true, false, cond, ◌&&◌}
use Prim.Native.Nat.{ℕ, suc, ◌-◌, ◌^◌, ◌≤◌, ◌<◌}
use native.Mathlib.Omega.{arith}
use lib.Dec.{leb, ltb, lit<}
use borrow.Author.Tests.{leb-false, lt-ltb}
use Rattle.time.specs.declared.Time.{Time}
use Rattle.time.specs.Raw.{BeforeLastSecond}
use Rattle.registers.specs.declared.Call.{Call}
use Rattle.registers.specs.declared.Call.TheVariants as call
use Rattle.registers.specs.Pulses.{pulse}
use Rattle.registers.specs.Calls.{settles}
use Rattle.flash.specs.declared.Flash.{Flash}
use Rattle.settle.specs.Settling.{range_bytes}
use Rattle.flash.specs.Chip.{placed, answer_limit}
use Rattle.lent.specs.declared.Request.{Request}
use Rattle.lent.specs.declared.Request.TheVariants.{WriteRegister, Write8, Read8, Read16, Protect, Reset, PowerOff, Environment}
use Rattle.lent.specs.Memory.{is_refusal, last_second, too_early, too_few_words}
use Rattle.lent.specs.Asked.{call_of, misplaced, call_refusal}

-- no answer is a byte
pub limit-above : (c : Call) → 0 < answer_limit c
limit-above (call.WriteRegister a v) = lit< tt
limit-above (call.Write8 a v) = lit< tt
limit-above (call.Read8 a) = lit< tt
limit-above (call.Read16 a) = lit< tt
limit-above call.Protect = lit< tt
limit-above call.Reset = lit< tt
limit-above call.PowerOff = lit< tt
limit-above (call.Environment mode modul oscillator) = lit< tt

pub request-placed : (q : Request) → misplaced q ≡ false → placed (call_of q) ≡ true
request-placed (WriteRegister a v) e = refl
request-placed (Write8 a v) e = lt-ltb a 49152 (leb-false 49152 a e)
request-placed (Read8 a) e = lt-ltb a 49152 (leb-false 49152 a e)
request-placed (Read16 a) e = lt-ltb (suc a) 49152 (leb-false 49152 (suc a) e)
request-placed Protect e = refl
request-placed Reset e = refl
request-placed PowerOff e = refl
request-placed (Environment mode modul oscillator) e = refl

-- what holds of a call that passes the lines from 4 on
pub record Passes (q : Request) (now : Time) (words : ℕ) (s : Flash) : Type 0 where
  pub placed_is : placed (call_of q) ≡ true
  pub in_time : BeforeLastSecond now
  pub enough : settles (call_of q) now s.registers ≡ true → 1 ≤ range_bytes (pulse s.registers) → range_bytes (pulse s.registers) < words

pub words-enough : (s : Bool) (range words : ℕ) → (s && (ltb 0 range && leb words range)) ≡ false → s ≡ true → 1 ≤ range → range < words
words-enough s range words e h k = leb-false words range (rw (h, lt-ltb 0 range k) at e)

pub passes : (q : Request) (now : Time) (words : ℕ) (s : Flash) → call_refusal q now words s ≡ 0 → Passes q now words s
unfolding call_refusal
passes q now words s e =
    by (misplaced q) (last_second now) (too_early now s) (settles (call_of q) now s.registers && too_few_words (pulse s.registers) words) refl refl refl e
  where
    by : (a b c d : Bool) → misplaced q ≡ a → last_second now ≡ b → (settles (call_of q) now s.registers && too_few_words (pulse s.registers) words) ≡ d
        → ◌≡◌ {A = ℕ} (cond (is_refusal (cond a 4 0)) (cond a 4 0) (cond b 5 (cond c 6 (cond d 7 0)))) 0 → Passes q now words s
    by false false false false x y z h =
        record { placed_is = request-placed q x; in_time = leb-false (2 ^ 64 - 1) now.0 y; enough = words-enough _ (range_bytes (pulse s.registers)) words z }
    by false false false true x y z h = absurd (omega (arith, h))
    by false false true d x y z h = absurd (omega (arith, h))
    by false true c d x y z h = absurd (omega (arith, h))
    by true b c d x y z h = absurd (omega (arith, h))
