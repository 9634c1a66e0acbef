-- An exposure over all cells: each moves by the rule of one cell, since the range's pages are opened and so no longer read from the array
-- that is sensed anew. It keeps sound slots and an array of bytes; charges that are not past FULL; and, where the array is the sensing of
-- its cells, that too. Assumes nothing.
use mathlib.Core.Path.{◌≡◌, refl, ap, sym, ◌∙◌}
use mathlib.Core.Logic.{◌⊎◌, inl, inr}
use mathlib.Core.Bool.{Bool, true, false, cond, and-false}
use mathlib.Core.List.{List}
use Prim.Native.Nat.{ℕ, zero, suc, ◌+◌, ◌*◌, ◌/◌, ◌%◌, ◌≤◌, ◌<◌, min}
use native.Mathlib.Omega.{arith}
use native.Mathlib.Decide.{dec_le, dec_lt}
use borrow.Author.Tests.{le-leb, lt-leb, lt-ltb, le-ltb}
use lib.ListN.{length, get_or-eq_default}
use lib.Dec.{eqb, leb}
use Rattle.std.specs.Prelude.{Option, Some, None}
use Rattle.time.specs.declared.Time.{Time}
use Rattle.time.specs.Raw.{raw}
use Rattle.time.proofs.Laws.{raw-later}
use Rattle.cell.specs.declared.Direction.{Direction}
use Rattle.cell.specs.declared.Direction.TheVariants.{Program, Erase}
use Rattle.cell.specs.declared.Sense.TheVariants.{Normal}
use Rattle.lists.specs.Lists.{at}
use Rattle.cell.specs.Cell.{FULL, bit, first_charge, page_bit, moved, exposed}
use Rattle.lists.proofs.Maps.{length-mapi, get_or-mapi}
use Rattle.cell.proofs.Rule.{exposures-add, exposed-full}
use Rattle.cell.proofs.Sensed.{sensed_byte-same, sensed_byte-lt}
use Rattle.registers.specs.declared.Pulse.{Pulse}
use Rattle.settle.specs.Pages.{Cells, held, cell_at, on_pages}
use Rattle.settle.specs.Settling.{exposure, covers, charged, ruled, normal_byte, resensed, expose, settled_by}
use Rattle.settle.proofs.Slots.{SlotsOf}
use Rattle.settle.proofs.Range.{pages-slots, pages-array, pages-else, pages-here, pages-open}
use Rattle.settle.proofs.Place.{mapi-keeps}

-- ---- time

-- from a first settling to a second and from there to now is from the first to now
pub exposures-join : (p : Pulse) (a b now : Time) → raw a ≤ raw b → raw b ≤ raw now → exposure p a b + exposure p b now ≡ exposure p a now
unfolding exposure
exposures-join p a b now h k = rw (raw-later a p.ready, raw-later b p.ready) (omega arith)

pub no-exposure : (p : Pulse) (now : Time) → exposure p now now ≡ 0
unfolding exposure
no-exposure p now = rw raw-later (omega arith)

-- ---- sensing depends on a byte's own cells

pub normal-same : (f g : ℕ → ℕ) (a : ℕ) → ((k : ℕ) → k < 8 → f (8 * a + k) ≡ g (8 * a + k)) → normal_byte f a ≡ normal_byte g a
unfolding normal_byte
normal-same f g a h = sensed_byte-same Normal a _ _ h

normal-small : (q : ℕ → ℕ) (a : ℕ) → normal_byte q a < 256
unfolding normal_byte
normal-small q a = sensed_byte-lt Normal a (λ k. q (8 * a + k))

-- ---- the range

-- page x in the pulse's range, or not
pub data Where (p : Pulse) (x : ℕ) : Type 0 where
  inside : covers p x ≡ true → p.first ≤ x → x < p.first + p.pages → Where p x
  outside : covers p x ≡ false → (x < p.first) ⊎ (p.first + p.pages ≤ x) → Where p x

pub whether : (p : Pulse) (x : ℕ) → Where p x
unfolding covers
whether p x = by (dec_le p.first x) (dec_lt x (p.first + p.pages))
  where
    by : Dec (p.first ≤ x) → Dec (x < p.first + p.pages) → Where p x
    by (yes h) (yes k) = inside (rw (le-leb _ _ h, lt-ltb _ _ k)) h k
    by (no h) k = outside (rw (lt-leb p.first x (omega arith))) (inl (omega arith))
    by (yes h) (no k) = outside (rw (le-ltb x (p.first + p.pages) (omega arith)) (and-false (leb p.first x))) (inr (omega arith))

-- ---- the rule

exposed-zero : (d : Direction) (b q : ℕ) → q ≤ FULL → exposed d b 0 q ≡ q
unfolding exposed moved
exposed-zero Program b q h = by (eqb b 0)
  where
    by : (t : Bool) → cond t (min (q + 100 * 0) FULL) q ≡ q
    by true = omega arith
    by false = refl
exposed-zero Erase b q h = omega arith

module _ (p : Pulse) (latch : List ℕ) where
  pub ruled-yes : (l i q : ℕ) → covers p (i / 1024) ≡ true → ruled p latch l i q ≡ charged p latch l i q
  unfolding ruled
  ruled-yes l i q e = rw e

  pub ruled-no : (l i q : ℕ) → covers p (i / 1024) ≡ false → ruled p latch l i q ≡ q
  unfolding ruled
  ruled-no l i q e = rw e

  -- no exposure leaves what a cell can hold as it is
  pub ruled-zero : (i q : ℕ) → q ≤ FULL → ruled p latch 0 i q ≡ q
  unfolding ruled charged
  ruled-zero i q h = by (covers p (i / 1024))
    where
      by : (b : Bool) → cond b (exposed p.direction (page_bit latch (i % 1024)) 0 q) q ≡ q
      by true = exposed-zero p.direction (page_bit latch (i % 1024)) q h
      by false = refl

  pub ruled-add : (l m i q : ℕ) → ruled p latch m i (ruled p latch l i q) ≡ ruled p latch (l + m) i q
  unfolding ruled charged
  ruled-add l m i q = by (covers p (i / 1024))
    where
      e : ℕ → ℕ → ℕ
      e n x = exposed p.direction (page_bit latch (i % 1024)) n x

      by : (b : Bool) → cond b (e m (cond b (e l q) q)) (cond b (e l q) q) ≡ cond b (e (l + m) q) q
      by true = exposures-add p.direction (page_bit latch (i % 1024)) l m q
      by false = refl

  pub ruled-full : (l i q : ℕ) → q ≤ FULL → ruled p latch l i q ≤ FULL
  unfolding ruled charged
  ruled-full l i q h = by (covers p (i / 1024))
    where
      by : (b : Bool) → cond b (exposed p.direction (page_bit latch (i % 1024)) l q) q ≤ FULL
      by true = exposed-full p.direction (page_bit latch (i % 1024)) l q h
      by false = h

-- ---- the array sensed anew

module _ (p : Pulse) (q : ℕ → ℕ) (array : List ℕ) where
  pub length-resensed : length (resensed p q array) ≡ length array
  unfolding resensed
  length-resensed = length-mapi _ 0 array

  pub resensed-here : (a : ℕ) → a < length array → covers p (a / 128) ≡ true → at (resensed p q array) a ≡ normal_byte q a
  unfolding resensed
  resensed-here a h e = get_or-mapi _ array a h ∙ rw e

  pub resensed-else : (a : ℕ) → covers p (a / 128) ≡ false → at (resensed p q array) a ≡ at array a
  unfolding resensed
  resensed-else a e = mapi-keeps _ array a (rw e)

-- ---- an exposure

pub expose-slots : (p : Pulse) (latch : List ℕ) (l : ℕ) (c : Cells) → SlotsOf c → SlotsOf (expose p latch l c)
unfolding expose
expose-slots p latch zero c inv = inv
expose-slots p latch (suc l) c inv = pages-slots (charged p latch (suc l)) p.pages p.first c inv

pub expose-array-length : (p : Pulse) (latch : List ℕ) (l : ℕ) (c : Cells) → length (expose p latch l c).array ≡ length c.array
unfolding expose
expose-array-length p latch zero c = refl
expose-array-length p latch (suc l) c = length-resensed p _ c.array

-- above 0, from the slots alone
pub expose-cell : (p : Pulse) (latch : List ℕ) (l : ℕ) (c : Cells) → SlotsOf c → (i : ℕ) → i < 393216
    → cell_at (expose p latch (suc l) c) i ≡ ruled p latch (suc l) i (cell_at c i)
unfolding expose cell_at held
expose-cell p latch l c inv i h = by (whether p (i / 1024))
  where
    f : ℕ → ℕ → ℕ
    f = charged p latch (suc l)

    new : Cells
    new = on_pages f p.pages p.first c

    sensed : List ℕ
    sensed = resensed p (λ i. ruled p latch (suc l) i (cell_at c i)) c.array

    opened : (k v : ℕ) → v ≡ suc k → held v sensed new.charges i ≡ held v new.array new.charges i
    opened k v e = rw e

    kept : covers p (i / 1024) ≡ false → (v : ℕ) → held v sensed new.charges i ≡ held v c.array new.charges i
    kept e zero =
        let m : i / 8 / 128 ≡ i / 1024 = omega arith in
        ap (λ b. first_charge (bit b (i % 8))) (resensed-else p _ c.array (i / 8) (rw m e))
    kept e (suc k) = refl

    by : Where p (i / 1024) → held (at new.index (i / 1024)) sensed new.charges i ≡ ruled p latch (suc l) i (cell_at c i)
    by (inside e g k) =
        let o = pages-open f p.pages p.first c inv (i / 1024) g k (omega arith) in
        opened o.0 (at new.index (i / 1024)) o.1
        ∙ pages-here f p.pages p.first c inv i g k (omega arith)
        ∙ sym (ruled-yes p latch (suc l) i (cell_at c i) e)
    by (outside e g) =
        kept e (at new.index (i / 1024))
        ∙ ap (λ xs. held (at new.index (i / 1024)) xs new.charges i) (sym (pages-array f p.pages p.first c))
        ∙ pages-else f p.pages p.first c inv i g ∙ sym (ruled-no p latch (suc l) i (cell_at c i) e)

-- ---- what a loop over the pages senses

-- after the first n pages of the range, each byte of theirs
pub pages-sensed : (p : Pulse) (latch : List ℕ) (l : ℕ) (c : Cells) → SlotsOf c → (n : ℕ) → n ≤ p.pages
    → (a : ℕ) → p.first ≤ a / 128 → a / 128 < p.first + n → a < 49152
    → normal_byte (cell_at (on_pages (charged p latch l) n p.first c)) a ≡ normal_byte (λ i. ruled p latch l i (cell_at c i)) a
pages-sensed p latch l c inv n h a g k m =
    normal-same _ _ a
    (λ j o. let d : (8 * a + j) / 1024 ≡ a / 128 = omega arith in
    pages-here (charged p latch l) n p.first c inv (8 * a + j) (rw d g) (rw d k) (omega arith)
    ∙ sym (ruled-yes p latch l (8 * a + j) _ (rw d (by (whether p (a / 128))))))
  where
    by : Where p (a / 128) → covers p (a / 128) ≡ true
    by (inside e _ _) = e
    by (outside e (inl o)) = absurd (omega arith)
    by (outside e (inr o)) = absurd (omega arith)

-- ---- cells in order: sound slots, and an array of its length, of bytes

pub record Ordered (c : Cells) : Type 0 where
  pub slots : SlotsOf c
  pub long : length c.array ≡ 49152
  pub small : (a : ℕ) → at c.array a < 256

pub expose-ordered : (p : Pulse) (latch : List ℕ) (l : ℕ) (c : Cells) → Ordered c → Ordered (expose p latch l c)
unfolding expose
expose-ordered p latch zero c s = s
expose-ordered p latch (suc l) c s =
    record {
      slots = expose-slots p latch (suc l) c s.slots;
      long = length-resensed p rule c.array ∙ s.long;
      small = λ a. by a (dec_lt a (length c.array)) (whether p (a / 128));
    }
  where
    rule : ℕ → ℕ
    rule i = ruled p latch (suc l) i (cell_at c i)

    by : (a : ℕ) → Dec (a < length c.array) → Where p (a / 128) → at (resensed p rule c.array) a < 256
    by a d (outside e g) = rw (resensed-else p rule c.array a e) (s.small a)
    by a (yes h) (inside e g k) = rw (resensed-here p rule c.array a h e) (normal-small rule a)
    by a (no h) (inside e g k) =
        let z : at (resensed p rule c.array) a ≡ 0 = get_or-eq_default (resensed p rule c.array) 0 (omega (arith, length-resensed p rule c.array)) in
        omega arith

-- no charge past FULL
abbrev pub Full : Cells → Type 0
Full c = (i : ℕ) → i < 393216 → cell_at c i ≤ FULL

pub expose-full : (p : Pulse) (latch : List ℕ) (l : ℕ) (c : Cells) → SlotsOf c → Full c → Full (expose p latch l c)
unfolding expose
expose-full p latch zero c inv f = f
expose-full p latch (suc l) c inv f =
    λ i h. rw (expose-cell p latch l c inv i h) (ruled-full p latch (suc l) i (cell_at c i) (f i h))

-- a stored array that is the sensing of its cells
abbrev pub Senses : Cells → Type 0
Senses c = (a : ℕ) → a < 49152 → at c.array a ≡ normal_byte (cell_at c) a

pub expose-senses : (p : Pulse) (latch : List ℕ) (l : ℕ) (c : Cells) → Ordered c → Senses c → Senses (expose p latch l c)
unfolding expose
expose-senses p latch zero c s n = n
expose-senses p latch (suc l) c s n = λ a h. by a h (whether p (a / 128))
  where
    rule : ℕ → ℕ
    rule i = ruled p latch (suc l) i (cell_at c i)

    cells : (i : ℕ) → i < 393216 → cell_at (expose p latch (suc l) c) i ≡ rule i
    cells i h = expose-cell p latch l c s.slots i h

    by : (a : ℕ) → a < 49152 → Where p (a / 128) → at (resensed p rule c.array) a ≡ normal_byte (cell_at (expose p latch (suc l) c)) a
    by a h (inside e g k) =
        resensed-here p rule c.array a (omega (arith, s.long)) e
        ∙ normal-same rule (cell_at (expose p latch (suc l) c)) a (λ k m. sym (cells (8 * a + k) (omega arith)))
    by a h (outside e g) =
        resensed-else p rule c.array a e ∙ n a h
        ∙ normal-same (cell_at c) (cell_at (expose p latch (suc l) c)) a
        (λ k m. let d : (8 * a + k) / 1024 ≡ a / 128 = omega arith in
        sym (cells (8 * a + k) (omega arith) ∙ ruled-no p latch (suc l) (8 * a + k) (cell_at c (8 * a + k)) (rw d e)))

-- ---- a settle

module _ (latch : List ℕ) (since now : Time) (c : Cells) where
  pub settled-slots : (o : Option Pulse) → SlotsOf c → SlotsOf (settled_by o latch since now c)
  unfolding settled_by
  settled-slots None inv = inv
  settled-slots (Some p) inv = expose-slots p latch (exposure p since now) c inv

  pub settled-array-length : (o : Option Pulse) → length (settled_by o latch since now c).array ≡ length c.array
  unfolding settled_by
  settled-array-length None = refl
  settled-array-length (Some p) = expose-array-length p latch (exposure p since now) c

  -- what every exposure keeps of the cells
  pub settled-keeps : (P : Cells → Type 0) → ((p : Pulse) (l : ℕ) → P (expose p latch l c)) → P c → (o : Option Pulse)
      → P (settled_by o latch since now c)
  unfolding settled_by
  settled-keeps P new old None = old
  settled-keeps P new old (Some p) = new p (exposure p since now)
