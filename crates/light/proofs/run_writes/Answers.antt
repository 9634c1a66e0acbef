-- `light::run_writes` meets its contract: a light call is before the last second, and the replay goes on after it. Assumes nothing.
use Rattle.listing.proofs.Steps.{onward-more}
use Rattle.light.proofs.Onward.{onward-light}
use Rattle.light.proofs.Lights.{light-says}
use borrow.Author.Tests.{leb-false}
use mathlib.Core.Path.{◌≡◌, ap, sym, ◌∙◌}
use native.Mathlib.Omega.{arith}
use mathlib.Core.List.{List, []}
use Rattle.std.specs.Simd.{first_chunks}
use Prim.Native.Nat.{ℕ, ◌+◌, ◌-◌, ◌*◌, ◌^◌, ◌<◌}
use lib.ListN.{get_or}
use Rattle.lists.specs.Lists.{at}
use Rattle.lists.proofs.Chunks.{chunk-at}
use Rattle.light.proofs.run_writes.Goals as goal

pub invariant_of-now : goal.invariant_of-now
invariant_of-now c =
    record { before_last_second = leb-false (2 ^ 64 - 1) _ (light-says _ _ _ _ _ (sym c.is_light.ensures ∙ c.if-not-is_light.false)).not_last }

-- the numbers of the i-th call
numbers-at : (n i : ℕ) (calls : List ℕ) (rows : List (List ℕ)) → rows ≡ first_chunks 3 n calls → i < n
    → (at (get_or rows i []) 0 ≡ at calls (3 * i)) × (at (get_or rows i []) 1 ≡ at calls (3 * i + 1)) × (at (get_or rows i []) 2 ≡ at calls (3 * i + 2))
numbers-at n i calls rows e h =
    let e0 : i * 3 + 0 ≡ 3 * i = omega arith in
    let e1 : i * 3 + 1 ≡ 3 * i + 1 = omega arith in
    let e2 : i * 3 + 2 ≡ 3 * i + 2 = omega arith in
    rw e (chunk-at 3 n i calls h 0 (omega arith) ∙ ap (at calls) e0, chunk-at 3 n i calls h 1 (omega arith) ∙ ap (at calls) e1, chunk-at 3 n i calls h 2 (omega arith) ∙ ap (at calls) e2)

pub loop-i-preserved : goal.loop-i-preserved
loop-i-preserved c =
    let of = numbers-at _ c.loop-i.i c.args.calls.now _ c.as_chunks.ensures.front (omega arith) in
    let lit = rw (c.may_pulse-may.ensures, of.0, of.1, of.2) at (sym c.is_light.ensures ∙ c.if-not-is_light.false) in
    let written = rw (c.first_in-address.ensures, c.second_in-value.ensures, of.0, of.1, of.2) at c.write-settings.ensures in
    let since = rw (c.first_in-address.ensures, of.0, of.1, of.2) at c.since_after-since.ensures in
    (onward-more c.loop-i.invariant.0 (onward-light _ _ _ c.args.flash _ _ _ _ c.loop-i-test.true (λ n. (c.type_inv.calls n).fits) lit written since), omega arith)

pub returns : goal.returns
returns c =
    let e : c.max.result ≡ c.loop-i.i = omega (arith, c.max.ensures, c.loop-i.invariant.0.later, c.loop-i.invariant.1, c.loop-i-test.false) in
    rw (e, c.lit-2.ensures) c.loop-i.invariant.0
