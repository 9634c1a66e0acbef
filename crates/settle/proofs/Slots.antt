-- A sound index: used slots are one-to-one with opened pages and stand below their number, so there is room for one more page.
-- The test of the specification says the same, by induction on the index. Assumes nothing.
use mathlib.Core.Path.{◌≡◌, refl, ap, sym}
use mathlib.Core.Bool.{Bool, true, false, not, ◌||◌}
use mathlib.Core.List.{List, [], ◌∷◌}
use Prim.Native.Nat.{ℕ, zero, suc, ◌≤◌, ◌<◌}
use native.Mathlib.Nat.{suc_inj, not-suc-le-zero, le_of_suc-le-suc}
use native.Mathlib.Omega.{arith}
use borrow.Author.Tests.{leb-true, le-leb, eqb-true, eq-eqb}
use lib.ListN.{length, set}
use lib.Dec.{leb, eqb, eqb-suc-zero}
use Rattle.std.proofs.lemmas.Bool.{and_parts}
use Rattle.lists.specs.Lists.{at}
use Rattle.settle.specs.Pages.{Cells, opened, holds, distinct, within, slots_sound}

pub record Slots (index charges : List ℕ) : Type 0 where
  pub pages : length index ≡ 384
  pub room : length charges ≡ 393216
  pub below : (q k : ℕ) → at index q ≡ suc k → k < opened index
  pub one : (q r k : ℕ) → at index q ≡ suc k → at index r ≡ suc k → q ≡ r

abbrev pub SlotsOf : Cells → Type 0
SlotsOf c = Slots c.index c.charges

-- ---- the number of opened pages

pub opened-le : (xs : List ℕ) → opened xs ≤ length xs
unfolding opened
opened-le [] = omega arith
opened-le (zero ∷ xs) = omega (arith, opened-le xs)
opened-le (suc s ∷ xs) = omega (arith, opened-le xs)

-- a page without a slot leaves room for one more
pub opened-lt : (xs : List ℕ) (p : ℕ) → p < length xs → at xs p ≡ 0 → opened xs < length xs
unfolding opened
opened-lt [] p h e = absurd (not-suc-le-zero h)
opened-lt (zero ∷ xs) p h e = omega (arith, opened-le xs)
opened-lt (suc s ∷ xs) zero h e = omega arith
opened-lt (suc s ∷ xs) (suc p) h e = omega (arith, opened-lt xs p (le_of_suc-le-suc h) e)

pub opened-set : (xs : List ℕ) (p v : ℕ) → p < length xs → at xs p ≡ 0 → opened (set xs p (suc v)) ≡ suc (opened xs)
unfolding opened
opened-set [] p v h e = absurd (not-suc-le-zero h)
opened-set (zero ∷ xs) zero v h e = refl
opened-set (suc s ∷ xs) zero v h e = omega arith
opened-set (zero ∷ xs) (suc p) v h e = opened-set xs p v (le_of_suc-le-suc h) e
opened-set (suc s ∷ xs) (suc p) v h e = ap suc (opened-set xs p v (le_of_suc-le-suc h) e)

pub next-lt : {index charges : List ℕ} → Slots index charges → (p : ℕ) → p < 384 → at index p ≡ 0 → opened index < 384
next-lt {index} inv p h e = let l : p < length index = omega (arith, inv.pages) in omega (arith, opened-lt index p l e, inv.pages)

-- ---- the test

within-le : (n : ℕ) (xs : List ℕ) (q : ℕ) → within n xs ≡ true → at xs q ≤ n
unfolding within
within-le n [] q e = omega arith
within-le n (x ∷ xs) zero e = leb-true x n (and_parts (leb x n) (within n xs) e).0
within-le n (x ∷ xs) (suc q) e = within-le n xs q (and_parts (leb x n) (within n xs) e).1

le-within : (n : ℕ) (xs : List ℕ) → ((q : ℕ) → at xs q ≤ n) → within n xs ≡ true
unfolding within
le-within n [] h = refl
le-within n (x ∷ xs) h = rw (le-leb x n (h 0)) (le-within n xs (λ q. h (suc q)))

-- an entry that stands somewhere, and where it stands
stands-holds : (k : ℕ) (xs : List ℕ) (q : ℕ) → at xs q ≡ suc k → holds (suc k) xs ≡ true
unfolding holds
stands-holds k [] q e = absurd (omega arith)
stands-holds k (x ∷ xs) zero e = rw (eq-eqb (suc k) x (sym e))
stands-holds k (x ∷ xs) (suc q) e = rw (stands-holds k xs q e) (by (eqb (suc k) x))
  where
    by : (b : Bool) → (b || true) ≡ true
    by true = refl
    by false = refl

holds-stands : (x : ℕ) (xs : List ℕ) → holds x xs ≡ true → (q : ℕ) × (at xs q ≡ x)
unfolding holds
holds-stands x [] e = absurd (let z : ◌≡◌ {A = ℕ} 0 1 = cc in omega arith)
holds-stands x (y ∷ ys) e = by (λ h. holds-stands x ys h) (eqb x y) refl e
  where
    by : (holds x ys ≡ true → (q : ℕ) × (at ys q ≡ x)) → (b : Bool) → eqb x y ≡ b → (b || holds x ys) ≡ true → (q : ℕ) × (at (y ∷ ys) q ≡ x)
    by rest true d e = (0, sym (eqb-true x y d))
    by rest false d e = let r = rest e in (suc r.0, r.1)

-- the first entry does not stand again
not-again : (x : ℕ) (xs : List ℕ) (q k : ℕ) → distinct (x ∷ xs) ≡ true → x ≡ suc k → at xs q ≡ suc k → ⊥
unfolding distinct
not-again x xs q k d e f = absurd (never (rw (e, stands-holds k xs q f, eqb-suc-zero k) at d))
  where
    never : false ≡ true → ⊥
    never z = let y : ◌≡◌ {A = ℕ} 0 1 = cc in omega arith

distinct-one : (xs : List ℕ) → distinct xs ≡ true → (q r k : ℕ) → at xs q ≡ suc k → at xs r ≡ suc k → q ≡ r
unfolding distinct
distinct-one [] d q r k e f = absurd (omega arith)
distinct-one (x ∷ xs) d zero zero k e f = refl
distinct-one (x ∷ xs) d zero (suc r) k e f = absurd (not-again x xs r k d e f)
distinct-one (x ∷ xs) d (suc q) zero k e f = absurd (not-again x xs q k d f e)
distinct-one (x ∷ xs) d (suc q) (suc r) k e f =
    ap suc (distinct-one xs (and_parts (eqb x 0 || not (holds x xs)) (distinct xs) d).1 q r k e f)

one-distinct : (xs : List ℕ) → ((q r k : ℕ) → at xs q ≡ suc k → at xs r ≡ suc k → q ≡ r) → distinct xs ≡ true
unfolding distinct
one-distinct [] h = refl
one-distinct (zero ∷ xs) h = one-distinct xs (λ q r k e f. suc_inj (h (suc q) (suc r) k e f))
one-distinct (suc x ∷ xs) h =
    let e : holds (suc x) xs ≡ false = by (holds (suc x) xs) refl in
    rw (e, eqb-suc-zero x) (one-distinct xs (λ q r k e f. suc_inj (h (suc q) (suc r) k e f)))
  where
    by : (b : Bool) → holds (suc x) xs ≡ b → b ≡ false
    by false e = refl
    by true e = let r = holds-stands (suc x) xs e in absurd (omega (arith, h 0 (suc r.0) x refl r.1))

pub slots-from : (index charges : List ℕ) → length index ≡ 384 → length charges ≡ 393216 → slots_sound index ≡ true → Slots index charges
unfolding slots_sound
slots-from index charges h k e =
    let s = and_parts (within (opened index) index) (distinct index) e in
    record {
      pages = h;
      room = k;
      below = λ q j f. omega (arith, within-le (opened index) index q s.0);
      one = distinct-one index s.1;
    }

-- a slot stands inside the store
pub entry-le : (index : List ℕ) → length index ≡ 384 → slots_sound index ≡ true → (q : ℕ) → at index q ≤ 384
unfolding slots_sound
entry-le index h e q =
    let w = (and_parts (within (opened index) index) (distinct index) e).0 in
    omega (arith, within-le (opened index) index q w, opened-le index)

pub slots-sound : {index charges : List ℕ} → Slots index charges → slots_sound index ≡ true
unfolding slots_sound
slots-sound {index} inv = rw (le-within (opened index) index (λ q. by q (at index q) refl)) (one-distinct index inv.one)
  where
    by : (q v : ℕ) → at index q ≡ v → v ≤ opened index
    by q zero e = omega arith
    by q (suc k) e = inv.below q k e
