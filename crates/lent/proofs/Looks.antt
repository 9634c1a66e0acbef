-- What a look shows, from its checks: a refusal's number with no answer, or 0 with one. With room for its answer a look that writes it is
-- refused as any look is, and a look at memory that is not refused has the lengths and an accepted record. By cases on each check. Assumes nothing.
use mathlib.Core.Path.{◌≡◌, refl, sym, ◌∙◌}
use mathlib.Core.Bool.{Bool, true, false, cond, not, ◌||◌}
use mathlib.Core.List.{List}
use Prim.Native.Nat.{ℕ, zero, suc, ◌≤◌, ◌<◌}
use native.Mathlib.Omega.{arith}
use lib.ListN.{length}
use borrow.Author.Tests.{leb-false, ltb-false}
use Rattle.time.specs.declared.Time.{Time}
use Rattle.layout.specs.Layout.{accepted, decoded}
use Rattle.lent.specs.Memory.{sizes_misfit, past_end, bit_over, is_refusal, last_second, too_early}
use Rattle.lent.specs.Looked.{sized_refusal, address_place, cell_place}
use Rattle.cell.specs.Cell.{array_bytes}
use Rattle.std.proofs.lemmas.Bool.{or_parts}
use Rattle.lent.proofs.Lines.{line}
use Rattle.lent.proofs.Fitted.{Sizes, sizes-fit}

pub inside : (a : ℕ) {n : ℕ} → n ≡ address_place a → n ≡ 0 → a < array_bytes
inside a e z = leb-false _ _ (line 3 (past_end a) 0 (sym e ∙ z)).0

pub cell-inside : (a bit : ℕ) {n : ℕ} → n ≡ cell_place a bit → n ≡ 0 → (a < array_bytes) × (bit ≤ 7)
cell-inside a bit e z =
    let o = or_parts (past_end a) (bit_over bit) (line 3 (past_end a || bit_over bit) 0 (sym e ∙ z)).0 in
    (leb-false _ _ o.0, ltb-false _ _ o.1)

-- ---- a look at memory

-- what holds of one that is not refused
pub record Looks (place : ℕ) (bytes : List ℕ) (array charges : ℕ) : Type 0 where
  pub sizes : Sizes (length bytes) array charges
  pub accepted_is : accepted bytes ≡ true
  pub placed_is : place ≡ 0

pub looks : (place : ℕ) (t : Time) (bytes : List ℕ) (array charges : ℕ) {n : ℕ} → n ≡ sized_refusal place t bytes array charges → n ≡ 0
    → Looks place bytes array charges
unfolding sized_refusal
looks place t bytes array charges e z =
    by (sizes_misfit (length bytes) array charges) (accepted bytes) place (cond (last_second t) 5 (cond (too_early t (decoded bytes)) 6 0))
    refl refl refl (sym e ∙ z)
  where
    by : (a b : Bool) (c later : ℕ) → sizes_misfit (length bytes) array charges ≡ a → accepted bytes ≡ b → place ≡ c
        → ◌≡◌ {A = ℕ} (cond a 2 (cond (not b) 3 (cond (is_refusal c) c later))) 0 → Looks place bytes array charges
    by false true zero later x y z h = record { sizes = sizes-fit (length bytes) array charges x; accepted_is = y; placed_is = z }
    by false true (suc c) later x y z h = absurd (omega (arith, h))
    by false false c later x y z h = absurd (omega (arith, h))
    by true b c later x y z h = absurd (omega (arith, h))
