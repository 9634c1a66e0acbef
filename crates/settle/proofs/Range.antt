-- A range of pages in rising order: the rule changes each of its cells once and no others, and opens each of its pages.
-- Assumes nothing.
use mathlib.Core.Path.{◌≡◌, refl, ap, ◌∙◌}
use mathlib.Core.Logic.{◌≢◌, ◌⊎◌, inl, inr}
use mathlib.Core.List.{List}
use Prim.Native.Nat.{ℕ, zero, suc, ◌+◌, ◌/◌, ◌≤◌, ◌<◌}
use native.Mathlib.Omega.{arith}
use native.Mathlib.Decide.{ℕ_discrete}
use lib.ListN.{set}
use lib.Seq.{get_or-set_same, get_or-set_other}
use Rattle.lists.specs.Lists.{at}
use Rattle.settle.specs.Pages.{Cells, cell_at, slot_for, on_page, on_pages}
use Rattle.settle.proofs.Slots.{SlotsOf}
use Rattle.settle.proofs.Page.{page-here, page-else, page-slots}

-- page x has a slot
abbrev pub Opened : List ℕ → ℕ → Type 0
Opened index x = (k : ℕ) × (at index x ≡ suc k)

module _ (f : ℕ → ℕ → ℕ) where
  pub pages-slots : (n p : ℕ) (c : Cells) → SlotsOf c → SlotsOf (on_pages f n p c)
  unfolding on_pages
  pages-slots zero p c inv = inv
  pages-slots (suc n) p c inv = pages-slots n (suc p) (on_page f p c) (page-slots c inv p f)

  pub pages-array : (n p : ℕ) (c : Cells) → (on_pages f n p c).array ≡ c.array
  unfolding on_pages on_page
  pages-array zero p c = refl
  pages-array (suc n) p c = pages-array n (suc p) (on_page f p c)

  pub pages-else : (n p : ℕ) (c : Cells) → SlotsOf c → (i : ℕ) → (i / 1024 < p) ⊎ (p + n ≤ i / 1024) → cell_at (on_pages f n p c) i ≡ cell_at c i
  unfolding on_pages
  pages-else zero p c inv i h = refl
  pages-else (suc n) p c inv i h =
      pages-else n (suc p) (on_page f p c) (page-slots c inv p f) i (further h)
      ∙ page-else c inv p f i (apart h)
    where
      further : (i / 1024 < p) ⊎ (p + suc n ≤ i / 1024) → (i / 1024 < suc p) ⊎ (suc p + n ≤ i / 1024)
      further (inl h) = inl (omega arith)
      further (inr h) = inr (omega arith)

      apart : (i / 1024 < p) ⊎ (p + suc n ≤ i / 1024) → i / 1024 ≢ p
      apart (inl h) = omega arith
      apart (inr h) = omega arith

  pub pages-here : (n p : ℕ) (c : Cells) → SlotsOf c → (i : ℕ) → p ≤ i / 1024 → i / 1024 < p + n → i / 1024 < 384
      → cell_at (on_pages f n p c) i ≡ f i (cell_at c i)
  unfolding on_pages
  pages-here zero p c inv i h k l = absurd (omega arith)
  pages-here (suc n) p c inv i h k l =
      by (λ a b. pages-here n (suc p) (on_page f p c) (page-slots c inv p f) i a b l) (ℕ_discrete (i / 1024) p)
    where
      by : (suc p ≤ i / 1024 → i / 1024 < suc p + n → cell_at (on_pages f n (suc p) (on_page f p c)) i ≡ f i (cell_at (on_page f p c) i))
          → Dec (i / 1024 ≡ p) → cell_at (on_pages f n (suc p) (on_page f p c)) i ≡ f i (cell_at c i)
      by rest (yes e) =
          pages-else n (suc p) (on_page f p c) (page-slots c inv p f) i (inl (omega arith))
          ∙ page-here c inv p f i (omega arith) e
      by rest (no e) = rest (omega arith) (omega arith) ∙ ap (f i) (page-else c inv p f i e)

  -- a page that is opened, here or before, stays so
  page-open : (p : ℕ) (c : Cells) → SlotsOf c → (x : ℕ) → x < 384 → (x ≡ p) ⊎ Opened c.index x → Opened (on_page f p c).index x
  unfolding on_page
  page-open p c inv x h o = by o (ℕ_discrete x p)
    where
      by : (x ≡ p) ⊎ Opened c.index x → Dec (x ≡ p) → Opened (set c.index p (suc (slot_for c.index p))) x
      by o (yes e) = (slot_for c.index p, rw e (get_or-set_same c.index p _ 0 (omega (arith, inv.pages))))
      by (inl e) (no n) = absurd (n e)
      by (inr o) (no n) = (o.0, get_or-set_other c.index p x _ 0 n ∙ o.1)

  pages-stay : (n p : ℕ) (c : Cells) → SlotsOf c → (x : ℕ) → x < 384 → Opened c.index x → Opened (on_pages f n p c).index x
  unfolding on_pages
  pages-stay zero p c inv x h o = o
  pages-stay (suc n) p c inv x h o =
      pages-stay n (suc p) (on_page f p c) (page-slots c inv p f) x h (page-open p c inv x h (inr o))

  pub pages-open : (n p : ℕ) (c : Cells) → SlotsOf c → (x : ℕ) → p ≤ x → x < p + n → x < 384 → Opened (on_pages f n p c).index x
  unfolding on_pages
  pages-open zero p c inv x h k l = absurd (omega arith)
  pages-open (suc n) p c inv x h k l =
      by (λ a b. pages-open n (suc p) (on_page f p c) (page-slots c inv p f) x a b l) (ℕ_discrete x p)
    where
      by : (suc p ≤ x → x < suc p + n → Opened (on_pages f n (suc p) (on_page f p c)).index x)
          → Dec (x ≡ p) → Opened (on_pages f n (suc p) (on_page f p c)).index x
      by rest (yes e) = pages-stay n (suc p) (on_page f p c) (page-slots c inv p f) x l (page-open p c inv x l (inl e))
      by rest (no n) = rest (omega arith) (omega arith)
