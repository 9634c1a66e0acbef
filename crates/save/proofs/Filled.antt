-- What is written of a snapshot. From the last page down, each slot passed is known by the first page that has it; from the first slot up,
-- each charge page is an address and the slot's charges after what stands already; and the parts, one after the other, are the whole.
-- Assumes nothing.
use mathlib.Core.Path.{◌≡◌, refl, sym, ap, ◌∙◌}
use mathlib.Core.Logic.{◌≢◌}
use mathlib.Core.Bool.{true}
use mathlib.Core.List.{List, [], ◌∷◌, ◌++◌, append_assoc, append-nil}
use Prim.Native.Nat.{ℕ, zero, suc, ◌+◌, ◌*◌, ◌≤◌, ◌<◌}
use native.Mathlib.Nat.{add-zero, zero-add, zero-mul}
use native.Mathlib.Numerals.{add-one}
use native.Mathlib.Omega.{arith}
use native.Mathlib.Decide.{ℕ_discrete}
use borrow.Author.Tests.{eq-eqb, ne_eqb}
use lib.ListN.{length, get_or, set, take, drop, replicate, length-take, length-drop, length-replicate, get_or-eq_default}
use lib.Seq.{take_all, drop-cons, get_or-append_seam, get_or-set_same, get_or-set_other}
use Rattle.std.proofs.lemmas.List.{length_push, length-append, drop-drop}
use Rattle.std.specs.List.{push}
use Rattle.std.specs.Simd.{first_chunks}
use Rattle.lists.specs.Lists.{at}
use Rattle.settle.specs.Pages.{opened, slots_sound}
use Rattle.settle.proofs.Slots.{slots-from}
use Rattle.rows.specs.Rows.{bytes, row_bytes}
use Rattle.flash.specs.Chip.{Chip}
use Rattle.borsh.specs.Borsh.{int, only, ◌then◌, write_all, array, vec}
use Rattle.snapshot.specs.Snapshot.{ChargePage, charge, charge_page, place_of, slot_page, slot_pages, state, snapshot, state_fields, contents_of, snapshot_of}
use Rattle.snapshot.specs.Places.{pages_place, page_at}
use Rattle.snapshot.proofs.Pigeon.{slot-has-page}
use Rattle.snapshot.proofs.Index.{length-slot_pages}
use Rattle.save.proofs.Runs.{write_all-bytes}

-- ---- which page has a slot

-- what is left of a list that is gone over from its end: its front, and the rest was passed
abbrev pub Front : List ℕ → List ℕ → Type 0
Front xs left = (passed : List ℕ) × (left ++ passed ≡ xs)

-- the last item of what is left is the one at its place
module _ (xs left front : List ℕ) (x : ℕ) (f : Front xs left) (last : left ≡ push front x) where
  pub front-next : Front xs front
  front-next = (x ∷ f.0, sym (append_assoc front (x ∷ []) f.0) ∙ (ap (λ l. l ++ f.0) (sym last) ∙ f.1))

  pub last-place : suc (length front) ≡ length left
  last-place = sym (ap length last ∙ length_push front x ∙ add-one (length front))

  pub last-within : length front < length xs
  last-within = omega (arith, last-place, sym (ap length f.1) ∙ length-append left f.0)

  pub last-at : at xs (length front) ≡ x
  unfolding front-next
  last-at = ap (λ l. at l (length front)) (sym front-next.1) ∙ get_or-append_seam front x f.0 0

-- each slot that a page from i on has, by the first such page
pub record Owned (i : ℕ) (xs found : List ℕ) : Type 0 where
  pub owner : (s q : ℕ) → i ≤ q → at xs q ≡ suc s → at found s ≡ (i + place_of (suc s) (drop i xs)) * 128

pub none_owned : (i : ℕ) (xs found : List ℕ) → length xs ≡ i → Owned i xs found
none_owned i xs found e =
    record { owner = λ s q h k. absurd (omega (arith, get_or-eq_default xs 0 {n = q} (omega arith))) }

-- one page more
module _ (i : ℕ) (xs found : List ℕ) (l : i < length xs) (p : Owned (suc i) xs found) where
  -- by what stands at its own slot, and at others
  one-owned : (new : List ℕ) → ((s : ℕ) → suc s ≡ at xs i → at new s ≡ i * 128) → ((s : ℕ) → suc s ≢ at xs i → at new s ≡ at found s)
      → Owned i xs new
  unfolding place_of
  one-owned new own other = record { owner = λ s q h k. rw (drop-cons xs i 0 l) (by s q h k (ℕ_discrete (suc s) (at xs i))) }
    where
      by : (s q : ℕ) → i ≤ q → at xs q ≡ suc s → Dec (suc s ≡ at xs i) → at new s ≡ (i + place_of (suc s) (at xs i ∷ drop (suc i) xs)) * 128
      by s q h k (yes e) = rw (eq-eqb (suc s) (at xs i) e) (own s e ∙ omega arith)
      by s q h k (no n) =
          let m : q ≢ i = λ d. n (sym (rw d at k)) in
          rw (ne_eqb (suc s) (at xs i) n) (other s n ∙ p.owner s q (omega arith) k ∙ omega arith)

  pub slot-owned : (s : ℕ) → at xs i ≡ suc s → s < length found → Owned i xs (set found s (i * 128))
  slot-owned s e k =
      one-owned (set found s (i * 128))
      (λ t d. let o : t ≡ s = omega arith in rw o (get_or-set_same found s (i * 128) 0 k))
      (λ t m. get_or-set_other found s t (i * 128) 0 (λ d. m (omega arith)))

  pub closed-owned : at xs i ≡ 0 → Owned i xs found
  closed-owned e = one-owned found (λ s d. absurd (omega arith)) (λ s m. refl)

-- a list of a length, since `Slots` speaks of a charge store too
list_of : (n : ℕ) → (l : List ℕ) × (length l ≡ n)
list_of n = (replicate n 0, length-replicate n 0)

-- all pages passed, each slot in use has one
pub all-owned : (xs found : List ℕ) → Owned 0 xs found → length xs ≡ 384 → slots_sound xs ≡ true
    → (s : ℕ) → s < opened xs → at found s ≡ place_of (suc s) xs * 128
all-owned xs found p h e s l =
    let r = list_of 393216 in
    p.owner s (place_of (suc s) xs) (omega arith) (slot-has-page xs r.0 (slots-from xs r.0 h r.1 e) s l).1 ∙ omega arith

-- ---- charge pages as bytes

page-bytes : (p : ChargePage) → (charge_page []).write p ≡ bytes 2 p.0 ++ row_bytes 8 p.1
unfolding charge_page charge only ◌then◌ array int
page-bytes p = ap (λ (r : List ℕ). bytes 2 p.0 ++ r) (write_all-bytes 8 p.1)

page-next : (n : ℕ) → page_at (n + 1) ≡ page_at n + 8194
unfolding page_at
page-next n = omega arith

pub page_inside : (n m : ℕ) → n < m → page_at n + 8194 ≤ page_at m
unfolding page_at
page_inside n m h = omega arith

-- a chunk is a stretch
pub chunk-stretch : (w n i : ℕ) (xs : List ℕ) → i < n → get_or (first_chunks w n xs) i [] ≡ take w (drop (i * w) xs)
chunk-stretch w zero i xs h = absurd (omega arith)
chunk-stretch w (suc n) zero xs h = rw (zero-mul w) refl
chunk-stretch w (suc n) (suc i) xs h =
    let e : w + i * w ≡ suc i * w = omega arith in
    chunk-stretch w n i (drop w xs) (omega arith) ∙ ap (take w) (drop-drop (i * w) w xs ∙ ap (λ k. drop k xs) e)

module _ (index charges : List ℕ) where
  -- the bytes of n charge pages from slot s on
  abbrev pub page_run : ℕ → ℕ → List ℕ
  page_run n s = write_all (charge_page []).write (slot_pages n s index charges)

  page_run-suc : (n s : ℕ) → page_run (suc n) s ≡ page_run n s ++ (charge_page []).write (slot_page index charges (s + n))
  unfolding write_all slot_pages
  page_run-suc zero s = rw (append-nil, add-zero s)
  page_run-suc (suc n) s =
      let e : suc s + n ≡ s + suc n = omega arith in
      ap (λ (r : List ℕ). (charge_page []).write (slot_page index charges s) ++ r) (page_run-suc n (suc s))
      ∙ rw e (sym (append_assoc ((charge_page []).write (slot_page index charges s)) (page_run n (suc s)) _))

  -- none yet
  pub pages-none : (l : List ℕ) → take (page_at 0) l ≡ take pages_place l ++ page_run 0 0
  unfolding page_at write_all slot_pages
  pages-none l = sym (append-nil (take pages_place l))

  -- the cells of slot n, as a stretch of the charges
  abbrev stretch : ℕ → List ℕ
  stretch n = take 1024 (drop (n * 1024) charges)

  -- one page more: its address, then its cells
  pub pages-more : (n p q v : ℕ) (l l₁ l₂ ys : List ℕ) → p ≡ page_at n → q ≡ page_at n → v ≡ place_of (suc n) index * 128
      → n * 1024 + 1024 ≤ length charges → take (p + 2) l₁ ≡ take p l ++ bytes 2 v
      → (cells : List ℕ) → cells ≡ stretch n → take (q + 2 + 8 * length cells) l₂ ≡ take (q + 2) l₁ ++ row_bytes 8 cells → take (page_at n) l ≡ ys ++ page_run n 0
      → take (page_at (n + 1)) l₂ ≡ ys ++ page_run (n + 1) 0
  pages-more n p q v l l₁ l₂ ys i j a k f cells w g h =
      let m : length (take 1024 (drop (n * 1024) charges)) ≡ 1024 = simp (length-take, length-drop) (omega arith) in
      let e : page_at (n + 1) ≡ page_at n + 2 + 8 * 1024 = omega (arith, page-next n) in
      rw (e, rw (j, w, m) at g, rw i at f, h, add-one n, page_run-suc n 0, zero-add n, page-bytes (slot_page index charges n), ← a) (simp append_assoc)

  -- all of them
  pub pages-all : (n m : ℕ) (l ys : List ℕ) → m ≡ n → take (page_at n) l ≡ ys ++ page_run n 0 → take (page_at m) l ≡ ys ++ page_run m 0
  pages-all n m l ys e h = rw e h

-- ---- the whole snapshot

snapshot-bytes : (k : Chip)
    → snapshot_of k
    ≡ row_bytes 1 k.array ++ bytes 4 (opened k.flash.indices) ++ page_run k.flash.indices k.charges (opened k.flash.indices) 0
    ++ state.write (state_fields k.flash)
unfolding snapshot_of snapshot contents_of ◌then◌ array vec int
snapshot-bytes k =
    rw (write_all-bytes 1 k.array, length-slot_pages (opened k.flash.indices) 0 k.flash.indices k.charges) (simp append_assoc)

-- the array, the count, the pages and the state, each after what stands already
pub filled : (k : Chip) (a b n p q m : ℕ) (l₀ l₁ l₂ l₃ l₄ : List ℕ) → take a l₁ ≡ take 0 l₀ ++ row_bytes 1 k.array → b ≡ a
    → take (b + 4) l₂ ≡ take b l₁ ++ bytes 4 n → n ≡ opened k.flash.indices
    → take p l₃ ≡ take (b + 4) l₂ ++ page_run k.flash.indices k.charges n 0 → q ≡ p
    → take m l₄ ≡ take q l₃ ++ state.write (state_fields k.flash) → length l₄ ≤ m → l₄ ≡ snapshot_of k
filled k a b n p q m l₀ l₁ l₂ l₃ l₄ e c f d g i h j =
    sym (take_all m l₄ j) ∙ rw (h, i, g, f, c, e, d) (sym (snapshot-bytes k))
