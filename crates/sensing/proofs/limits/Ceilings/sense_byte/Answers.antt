-- `sensing::limits::Ceilings::sense_byte` meets its contract. The loop's invariant: the cells passed have given the byte's lowest bits.
-- Assumes nothing.
use Prim.Native.Nat.{ℕ, zero, suc, ◌+◌, ◌*◌, ◌^◌, ◌%◌, ◌≤◌, ◌<◌}
use mir.Val.{bool_byte}
use mathlib.Core.Bool.{Bool, true, false, cond}
use mathlib.Core.Path.{◌≡◌, refl, ◌∙◌}
use native.Mathlib.Numerals.{add-one}
use native.Mathlib.Omega.{arith}
use Rattle.std.proofs.Math.Nat.{pow-le-pow_right}
use Rattle.std.proofs.lemmas.Grind.{pow_more}
use Rattle.lists.specs.Lists.{at}
use Rattle.cell.specs.Cell.{from_bits, sensed_byte}
use Rattle.cell.proofs.Ceiling.{sensed-below}
use Rattle.sensing.proofs.limits.Ceilings.sense_byte.Goals as goal

bit-of : (b : Bool) → bool_byte b ≡ cond b 1 0
bit-of true = refl
bit-of false = refl

bit-le : (b : Bool) → bool_byte b ≤ 1
bit-le true = omega arith
bit-le false = omega arith

-- one bit more
next : (f : ℕ → ℕ) (k byte b : ℕ) → k < 8 → byte ≡ from_bits k f → byte < 2 ^ k → b ≡ f k → b ≤ 1
    → (byte + b * 2 ^ k % 256 ≡ from_bits (k + 1) f) × (byte + b * 2 ^ k % 256 < 2 ^ (k + 1))
unfolding from_bits
next f k byte zero h e l d _ = (rw (add-one k, ← d) (omega arith), rw pow_more (omega arith))
next f k byte (suc zero) h e l d _ =
    let p : 2 ^ k ≤ 2 ^ 7 = pow-le-pow_right {n = 2} (omega arith) {i = k} {j = 7} (omega arith) in
    (rw (add-one k, ← d) (omega arith), rw pow_more (omega arith))
next f k byte (suc (suc b)) h e l d g = absurd (omega arith)

pub loop-k-init : goal.loop-k-init
unfolding from_bits
loop-k-init c = (refl, omega arith)

pub loop-k-preserved : goal.loop-k-preserved
loop-k-preserved c =
    let x = c.args in
    let l = c.loop-k in
    let sensed = sensed-below x.self.now.sense (8 * x.address + l.k) (at x.cells.now l.k) in
    next _ l.k l.byte _ (omega arith) l.invariant.0 l.invariant.1
    (rw (sensed, ← x.self.now.is) (c.from.ensures ∙ bit-of _))
    (rw c.from.ensures (bit-le _))

pub returns : goal.returns
unfolding sensed_byte
returns c =
    let l = c.loop-k in
    let e : l.k ≡ 8 = omega arith in
    rw e at l.invariant.0
