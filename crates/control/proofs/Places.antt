-- Blocks and pages by their places: one block after the other is tried, each lies in the array, and a page of the array lies in the block
-- that is told and in no other. A stretch of addresses touches a page exactly where one of them lies in it. Assumes nothing.
use mathlib.Core.Path.{◌≡◌, refl, sym, ap, ◌∙◌}
use mathlib.Core.Bool.{Bool, true, false, cond}
use mathlib.Core.List.{List, [], ◌∷◌}
use Prim.Native.Nat.{ℕ, zero, suc, ◌+◌, ◌-◌, ◌*◌, ◌/◌, ◌^◌, ◌<◌, ◌≤◌}
use native.Mathlib.Numerals.{add-one}
use native.Mathlib.Omega.{arith}
use native.Mathlib.Decide.{ℕ_discrete, dec_lt}
use borrow.Author.Tests.{ltb-true, ltb-false, leb-true, lt-ltb, le-ltb, le-leb}
use Rattle.std.specs.Prelude.{Option, Some, IfSome}
use Rattle.std.specs.Option.{option_map}
use Rattle.std.specs.List.{find, range_with_len}
use Rattle.std.proofs.lemmas.Bool.{and_parts}
use Rattle.std.proofs.lemmas.Iterator.Adapters.{option_map_id}
use Rattle.control.specs.declared.Range.{Range}
use Rattle.control.specs.Blocks.{covers, erase_range, InOrder, block_range, block_from, block_of, pages_touched}
use Rattle.control.proofs.Tiling.{blocks-in-order}

-- ---- ranges

pub in-range : (r : Range) (p : ℕ) → r.first ≤ p → p < r.first + r.pages → covers r p ≡ true
in-range r p low high = rw (le-leb _ p low, lt-ltb p _ high)

past-range : (r : Range) (p : ℕ) → r.first + r.pages ≤ p → covers r p ≡ false
past-range r p h = rw (le-leb r.first p (omega arith), le-ltb p _ h)

-- where p lies in a range
from-range : (r : Range) (p : ℕ) → covers r p ≡ true → (r.first ≤ p) × (p < r.first + r.pages)
from-range r p e = let both = and_parts _ _ e in (leb-true _ p both.0, ltb-true p _ both.1)

-- ---- the block of a page

-- what a search of the blocks in turn gives
pub block-first : (p : ℕ) (r : Option ℕ) → option_map (λ x. x) r ≡ find (λ b. covers (block_range b) p) (range_with_len 0 6)
    → r ≡ block_of p
unfolding block_of block_from
block-first p r e = sym (option_map_id r) ∙ e ∙ go 6 0
  where
    go : (n b : ℕ) → find (λ b. covers (block_range b) p) (range_with_len b n) ≡ block_from n b p
    go zero b = refl
    go (suc n) b = rw (add-one, go n (suc b))

-- a block has pages, and they lie in the array
pub block_inside : (b : ℕ) → b < 6 → (1 ≤ (block_range b).pages) × ((block_range b).first + (block_range b).pages ≤ 384)
unfolding erase_range
block_inside zero h = (omega arith, omega arith)
block_inside (suc zero) h = (omega arith, omega arith)
block_inside (suc (suc zero)) h = (omega arith, omega arith)
block_inside (suc (suc (suc zero))) h = (omega arith, omega arith)
block_inside (suc (suc (suc (suc zero)))) h = (omega arith, omega arith)
block_inside (suc (suc (suc (suc (suc zero))))) h = (omega arith, omega arith)
block_inside (suc (suc (suc (suc (suc (suc b)))))) h = absurd (omega arith)

-- the erase values of n blocks from block b on
values : ℕ → ℕ → List ℕ
values zero b = []
values (suc n) b = 2 ^ b ∷ values n (suc b)

-- Where n blocks from block b on stand one after the other from page q to the end, one is told for a page from q on, and has it.
block-found : (n b q p : ℕ) → InOrder q (values n b) → q ≤ p → p < 384
    → (x : ℕ) × (block_from n b p ≡ Some x) × (x < b + n) × (covers (block_range x) p ≡ true)
unfolding InOrder values block_from
block-found zero b q p e low high = absurd (omega (arith, e))
block-found (suc n) b q p (first, rest) low high =
    by (λ l. block-found n (suc b) (q + (block_range b).pages) p rest l high) (covers (block_range b) p) refl
  where
    Found : Option ℕ → ℕ → Type 0
    Found told past = (x : ℕ) × (told ≡ Some x) × (x < past) × (covers (block_range x) p ≡ true)

    by : (q + (block_range b).pages ≤ p → Found (block_from n (suc b) p) (suc b + n))
        → (t : Bool) → covers (block_range b) p ≡ t → Found (cond t (Some b) (block_from n (suc b) p)) (b + suc n)
    by later true e = (b, refl, omega arith, e)
    by later false e =
        let l = ltb-false p _ (rw (le-leb (block_range b).first p (omega arith)) at e) in
        let (x, told, small, has) = later (omega arith) in
        (x, told, omega arith, has)

-- A page of the array lies in the block that is told.
pub page-in-block : (p : ℕ) → p < 384 → (b : ℕ) × (block_of p ≡ Some b) × (b < 6) × (covers (block_range b) p ≡ true)
unfolding block_of values
page-in-block p h = block-found 6 0 0 p blocks-in-order (omega arith) h

-- A block that is told is one of those that are tried.
told-small : (n b p : ℕ) → IfSome (block_from n b p) (λ x. x < b + n)
unfolding block_from
told-small zero b p = tt
told-small (suc n) b p = by (told-small n (suc b) p) (covers (block_range b) p)
  where
    by : IfSome (block_from n (suc b) p) (λ x. x < suc b + n) → (t : Bool) → IfSome (cond t (Some b) (block_from n (suc b) p)) (λ x. x < b + suc n)
    by later true = omega arith
    by later false = let e : b + suc n ≡ suc b + n = omega arith in rw e later

pub block_small : (p : ℕ) → IfSome (block_of p) (λ x. x < 6)
unfolding block_of
block_small p = told-small 6 0 p

-- Such blocks start at q or later.
starts-later : (n b q c : ℕ) → InOrder q (values n b) → b ≤ c → c < b + n → q ≤ (block_range c).first
unfolding InOrder values
starts-later zero b q c e low high = absurd (omega arith)
starts-later (suc n) b q c (first, rest) low high = by (λ l. starts-later n (suc b) (q + (block_range b).pages) c rest l (omega arith)) (ℕ_discrete c b)
  where
    by : (suc b ≤ c → q + (block_range b).pages ≤ (block_range c).first) → Dec (c ≡ b) → q ≤ (block_range c).first
    by later (yes e) = rw e (omega (arith, first))
    by later (no d) = omega (arith, later (omega arith))

-- A page of one of them lies in no block before it, so that one is told.
block-only : (n b q p c : ℕ) → InOrder q (values n b) → b ≤ c → c < b + n → covers (block_range c) p ≡ true → block_from n b p ≡ Some c
unfolding InOrder values block_from
block-only zero b q p c o low high e = absurd (omega arith)
block-only (suc n) b q p c (first, rest) low high e =
    by (λ l. block-only n (suc b) (q + (block_range b).pages) p c rest l (omega arith) e) (ℕ_discrete c b)
  where
    by : (suc b ≤ c → block_from n (suc b) p ≡ Some c) → Dec (c ≡ b) → cond (covers (block_range b) p) (Some b) (block_from n (suc b) p) ≡ Some c
    by later (yes d) = rw (rw d at e) (ap Some (sym d))
    by later (no d) =
        let s = starts-later n (suc b) (q + (block_range b).pages) c rest (omega arith) (omega arith) in
        let r = from-range (block_range c) p e in
        rw (past-range (block_range b) p (omega arith)) (later (omega arith))

-- A page lies in no block but the one that is told.
pub block-of-page : (b p : ℕ) → b < 6 → covers (block_range b) p ≡ true → block_of p ≡ Some b
unfolding block_of values
block-of-page b p h e = block-only 6 0 0 p b blocks-in-order (omega arith) (omega arith) e

-- ---- the pages of a stretch of addresses

module _ (from to : ℕ) where
  -- an address of the stretch lies in a page that is told
  pub touched : (a : ℕ) → from ≤ a → a ≤ to → covers (pages_touched from to) (a / 128) ≡ true
  unfolding pages_touched
  touched a low high = in-range _ (a / 128) (omega arith) (omega arith)

  -- the pages told lie in the array if the stretch does
  pub touched-inside : from ≤ to → to < 49152 → (pages_touched from to).first + (pages_touched from to).pages ≤ 384
  unfolding pages_touched
  touched-inside h inside = omega arith

  -- and a page that is told has one
  pub touched-only : (p : ℕ) → from ≤ to → covers (pages_touched from to) p ≡ true → (a : ℕ) × (from ≤ a) × (a ≤ to) × (a / 128 ≡ p)
  unfolding pages_touched
  touched-only p h e = let r = from-range (pages_touched from to) p e in by r (dec_lt (p * 128) from)
    where
      by : (from / 128 ≤ p) × (p < from / 128 + (to / 128 + 1 - from / 128)) → Dec (p * 128 < from) → (a : ℕ) × (from ≤ a) × (a ≤ to) × (a / 128 ≡ p)
      by r (yes k) = (from, omega arith, omega arith, omega arith)
      by r (no k) = (p * 128, omega arith, omega arith, omega arith)
