-- A sound index with n opened pages has a page for each slot below n. By induction on n: an index whose slots stand below n has at most n
-- opened pages, and fewer if one slot below n has no page; the page of the last slot, if there is one, is cleared on the way down.
-- Assumes nothing.
use mathlib.Core.Path.{◌≡◌, refl, sym, ap}
use mathlib.Core.Logic.{◌≢◌}
use mathlib.Core.Bool.{Bool, true, false, cond}
use mathlib.Core.List.{List, [], ◌∷◌}
use Prim.Native.Nat.{ℕ, zero, suc, ◌≤◌, ◌<◌}
use native.Mathlib.Nat.{suc_inj}
use native.Mathlib.Omega.{arith}
use native.Mathlib.Decide.{ℕ_discrete}
use borrow.Author.Tests.{eqb-true, eq-eqb}
use lib.ListN.{length, set}
use lib.Dec.{eqb}
use Rattle.lists.specs.Lists.{at}
use Rattle.settle.specs.Pages.{opened}
use Rattle.settle.proofs.Slots.{Slots}
use Rattle.snapshot.specs.Snapshot.{place_of}

-- ---- the place of a slot

-- a slot that stands somewhere stands at its place
pub place_at : (k : ℕ) (xs : List ℕ) (q : ℕ) → at xs q ≡ suc k → (place_of (suc k) xs < length xs) × (at xs (place_of (suc k) xs) ≡ suc k)
unfolding place_of
place_at k [] q e = absurd (omega arith)
place_at k (x ∷ xs) zero e = rw (eq-eqb (suc k) x (sym e)) (omega arith, e)
place_at k (x ∷ xs) (suc q) e = by (place_at k xs q e) (eqb (suc k) x) refl
  where
    Found : ℕ → Type 0
    Found p = (p < suc (length xs)) × (at (x ∷ xs) p ≡ suc k)

    by : (place_of (suc k) xs < length xs) × (at xs (place_of (suc k) xs) ≡ suc k) → (b : Bool) → eqb (suc k) x ≡ b → Found (cond b 0 (suc (place_of (suc k) xs)))
    by r true d = (omega arith, sym (eqb-true (suc k) x d))
    by r false d = (omega arith, r.1)

-- and in a sound index nowhere else
pub place_is : {index charges : List ℕ} → Slots index charges → (q k : ℕ) → at index q ≡ suc k → place_of (suc k) index ≡ q
place_is {index} inv q k e = inv.one (place_of (suc k) index) q k (place_at k index q e).1 e

-- ---- a page cleared

cleared : (xs : List ℕ) (p q k : ℕ) → at (set xs p 0) q ≡ suc k → (at xs q ≡ suc k) × (q ≢ p)
cleared [] p q k e = absurd (omega arith)
cleared (x ∷ xs) zero zero k e = absurd (omega arith)
cleared (x ∷ xs) zero (suc q) k e = (e, omega arith)
cleared (x ∷ xs) (suc p) zero k e = (e, omega arith)
cleared (x ∷ xs) (suc p) (suc q) k e = let r = cleared xs p q k e in (r.0, λ d. r.1 (suc_inj d))

opened-cleared : (xs : List ℕ) (p k : ℕ) → at xs p ≡ suc k → opened xs ≡ suc (opened (set xs p 0))
unfolding opened
opened-cleared [] p k e = absurd (omega arith)
opened-cleared (zero ∷ xs) zero k e = absurd (omega arith)
opened-cleared (suc x ∷ xs) zero k e = refl
opened-cleared (zero ∷ xs) (suc p) k e = opened-cleared xs p k e
opened-cleared (suc x ∷ xs) (suc p) k e = ap suc (opened-cleared xs p k e)

pub opened-none : (xs : List ℕ) → ((q k : ℕ) → at xs q ≡ suc k → ⊥) → opened xs ≡ 0
unfolding opened
opened-none [] h = refl
opened-none (zero ∷ xs) h = opened-none xs (λ q. h (suc q))
opened-none (suc x ∷ xs) h = absurd (h 0 x refl)

-- ---- few slots have few pages

-- each slot has one page, is below n and is not s
record Avoids (n s : ℕ) (xs : List ℕ) : Type 0 where
  below : (q k : ℕ) → at xs q ≡ suc k → k < n
  other : (q k : ℕ) → at xs q ≡ suc k → k ≢ s
  one : (q r k : ℕ) → at xs q ≡ suc k → at xs r ≡ suc k → q ≡ r

abbrev Few : ℕ → ℕ → List ℕ → Type 0
Few n s xs = (opened xs ≤ n) × (s < n → opened xs < n)

few : (n s : ℕ) (xs : List ℕ) → Avoids n s xs → Few n s xs
few zero s xs a =
    let e : opened xs ≡ 0 = opened-none xs (λ q k e. omega (arith, a.below q k e)) in
    (omega arith, λ h. absurd (omega arith))
few (suc n) s xs a = by (few n s) (ℕ_discrete (at xs (place_of (suc n) xs)) (suc n))
  where
    by : ((ys : List ℕ) → Avoids n s ys → Few n s ys) → Dec (at xs (place_of (suc n) xs) ≡ suc n) → Few (suc n) s xs
    by rest (yes e) =
        let p = place_of (suc n) xs in
        let c = opened-cleared xs p n e in
        let m : n ≢ s = a.other p n e in
        let r = rest (set xs p 0)
        record {
          below = λ q k d.
              let f = cleared xs p q k d in
              let g : k ≢ n = λ h. f.1 (a.one q p n (rw h at f.0) e) in
              omega (arith, a.below q k f.0);
          other = λ q k d. a.other q k (cleared xs p q k d).0;
          one = λ q r k d f. a.one q r k (cleared xs p q k d).0 (cleared xs p r k f).0;
        } in
        (omega arith, λ h. omega (arith, r.1 (omega arith)))
    by rest (no m) =
        let r = rest xs
        record {
          below = λ q k d.
              let g : k ≢ n = λ h. m (place_at n xs q (rw h at d)).1 in
              omega (arith, a.below q k d);
          other = a.other;
          one = a.one;
        } in
        (omega arith, λ h. omega arith)

pub slot-has-page : (index charges : List ℕ) → Slots index charges → (s : ℕ) → s < opened index
    → (place_of (suc s) index < 384) × (at index (place_of (suc s) index) ≡ suc s)
slot-has-page index charges inv s h = by (ℕ_discrete (at index (place_of (suc s) index)) (suc s))
  where
    by : Dec (at index (place_of (suc s) index) ≡ suc s) → (place_of (suc s) index < 384) × (at index (place_of (suc s) index) ≡ suc s)
    by (yes e) = (omega (arith, (place_at s index (place_of (suc s) index) e).0, inv.pages), e)
    by (no n) =
        let a : Avoids (opened index) s index =
        record { below = inv.below; other = λ q k e d. n (place_at s index q (rw d at e)).1; one = inv.one } in
        absurd (omega (arith, (few (opened index) s index a).1 h))
