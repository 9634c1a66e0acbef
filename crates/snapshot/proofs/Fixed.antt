-- Formats read at a place of a list of bytes: what reading gives is told by the number of a refusal or 0, the value, and the place after
-- it. One law for each way in which formats are made. Places are counted from a base, so that their sums compute. Assumes nothing.
use mathlib.Core.Path.{◌≡◌, refl}
use mathlib.Core.Bool.{Bool, true, false, cond}
use mathlib.Core.List.{List, [], ◌∷◌}
use Prim.Native.Nat.{ℕ, zero, suc, ◌+◌, ◌-◌, ◌*◌, ◌<◌, ◌≤◌}
use native.Mathlib.Nat.{add-zero, add-suc, add_assoc, suc-mul, zero-mul}
use native.Mathlib.Omega.{arith}
use borrow.Author.Tests.{ltb-true, ltb-false, lt-ltb, le-ltb, le-leb}
use lib.ListN.{length, drop, length-drop}
use lib.Seq.{drop-drop, get_or-drop}
use lib.Dec.{ltb, leb, leb-suc-suc}
use Rattle.lists.specs.Lists.{at}
use Rattle.rows.specs.Rows.{word, row, flag_of}
use Rattle.rows.proofs.Widths.{word-one}
use Rattle.std.specs.Prelude.{Some, None}
use Rattle.refusal.specs.declared.Refusal.TheVariants.{EndsEarly, Field}
use Rattle.borsh.specs.Borsh.{refused, Read, next, Borsh, int, only, mapped, enum, bool, ◌then◌, option, read_all, array}
use Rattle.std.specs.Prelude.{Ok, Err}
use Rattle.snapshot.specs.Asked.{first}
use Rattle.snapshot.specs.Places.{end_number, bytes_number}

-- ---- what reading gives

abbrev pub tell : {A : Type 0} → ℕ → A → List ℕ → Read A
tell zero v rest = Ok (v, rest)
tell (suc n) v rest = Err (record { number = suc n })

-- reading on, of which nothing need be known after a refusal
pub next-tell : {A B : Type 0} (f : A → List ℕ → Read B) (n m : ℕ) (v : A) (rest : List ℕ) (w : B) (end : List ℕ)
    → (n ≡ 0 → f v rest ≡ tell m w end) → next f (tell n v rest) ≡ tell (first n m) w end
next-tell f zero m v rest w end h = h refl
next-tell f (suc n) m v rest w end h = refl

-- where the value is only made into another
pub tell-map : {A B : Type 0} (f : A → B) (n : ℕ) (v : A) (rest : List ℕ) → next (λ a r. Ok (f a, r)) (tell n v rest) ≡ tell n (f v) rest
tell-map f zero v rest = refl
tell-map f (suc n) v rest = refl

-- ---- refusals one after the other

pub first-assoc : (a b c : ℕ) → first (first a b) c ≡ first a (first b c)
first-assoc zero b c = refl
first-assoc (suc a) b c = refl

-- neither refuses
pub first-zero : (a b : ℕ) → first a b ≡ 0 → (a ≡ 0) × (b ≡ 0)
first-zero zero b h = (refl, h)
first-zero (suc a) b h = absurd (omega arith)

first-none : (a : ℕ) → first a 0 ≡ a
first-none zero = refl
first-none (suc a) = refl

-- two tests, one after the other
pub first-tests : (a b : Bool) → first (cond a 9 0) (cond b 0 10) ≡ cond a 9 (cond b 0 10)
first-tests true b = refl
first-tests false b = refl

-- a first end refuses only what a later one does
pub ends : (xs : List ℕ) (a b : ℕ) → a ≤ b → first (end_number xs a) (end_number xs b) ≡ end_number xs b
ends xs a b h = by (ltb (length xs) a) (ltb (length xs) b) refl refl
  where
    by : (p q : Bool) → ltb (length xs) a ≡ p → ltb (length xs) b ≡ q → first (cond p 9 0) (cond q 9 0) ≡ cond q 9 0
    by false q e f = refl
    by true true e f = refl
    by true false e f = absurd (omega (arith, ltb-true (length xs) a e, ltb-false (length xs) b f))

-- ---- a format at a place

-- f is read from a on, to a number n, a value v and what stands from c on
pub record Reads (xs : List ℕ) (base : ℕ) {A : Type 0} (f : Borsh A) (a n : ℕ) (v : A) (c : ℕ) : Type 0 where
  pub told : f.read (drop (base + a) xs) ≡ tell n v (drop (base + c) xs)

word-drop : (n p : ℕ) (xs : List ℕ) (k : ℕ) → word n (drop p xs) k ≡ word n xs (p + k)
unfolding word
word-drop zero p xs k = refl
word-drop (suc n) p xs k = rw (get_or-drop p xs k 0, word-drop n p xs (suc k), add-suc p k)

module _ (xs : List ℕ) (base : ℕ) where
  pub int-reads : (n a : ℕ) → 0 < n → Reads xs base (int n) a (end_number xs (base + (a + n))) (word n xs (base + a)) (a + n)
  unfolding int
  int-reads n a h =
      record {
        told = rw (length-drop p xs, word-drop n p xs 0, add-zero p, drop-drop n p xs, add_assoc base a n) (by (ltb (length xs) q) refl);
      }
    where
      p : ℕ
      p = base + a

      q : ℕ
      q = base + (a + n)

      by : (b : Bool) → ltb (length xs) q ≡ b
          → cond (ltb (length xs - p) n) (Err (refused EndsEarly)) (Ok (word n xs p, drop q xs)) ≡ tell (cond b 9 0) (word n xs p) (drop q xs)
      by true e = let l = ltb-true (length xs) q e in rw (lt-ltb (length xs - p) n (omega arith))
      by false e = let l = ltb-false (length xs) q e in rw (le-ltb (length xs - p) n (omega arith))

module _ {xs : List ℕ} {base : ℕ} where
  pub only-reads : {A : Type 0} (ok : A → Bool) {f : Borsh A} {a n : ℕ} {v : A} {c : ℕ} → Reads xs base f a n v c
      → Reads xs base (only ok f) a (first n (cond (ok v) 0 10)) v c
  unfolding only
  only-reads ok {n = n} {v = v} {c = c} h = record { told = rw h.told (next-tell _ n _ v _ v _ (λ e. by (ok v))) }
    where
      by : (b : Bool) → cond b (Ok (v, drop (base + c) xs)) (Err (refused Field)) ≡ tell (cond b 0 10) v (drop (base + c) xs)
      by true = refl
      by false = refl

  pub mapped-reads : {A B : Type 0} (to : A → B) (from : B → A) {f : Borsh A} {a n : ℕ} {v : A} {c : ℕ} → Reads xs base f a n v c
      → Reads xs base (mapped to from f) a n (to v) c
  unfolding mapped
  mapped-reads to from {n = n} {v = v} h = record { told = rw h.told (tell-map to n v _) }

  -- after a refusal nothing need be known
  pub then-reads : {A B : Type 0} {f : Borsh A} {g : Borsh B} {a n : ℕ} {v : A} {c m : ℕ} {w : B} {d : ℕ}
      → Reads xs base f a n v c → (n ≡ 0 → Reads xs base g c m w d) → Reads xs base (f then g) a (first n m) (v, w) d
  unfolding ◌then◌
  then-reads {A} {B} {n = n} {v = v} {m = m} {w = w} h k =
      record { told = rw h.told (next-tell _ n m v _ (v, w) _ (λ e. rw (k e).told (tell-map {B = A × B} (λ w. (v, w)) m w _))) }

  -- the last of two ends tells
  pub ends-then : {A B : Type 0} {f : Borsh A} {g : Borsh B} {a : ℕ} {v : A} {c : ℕ} {w : B} {d : ℕ} (i j : ℕ) → i ≤ j
      → Reads xs base f a (end_number xs i) v c → Reads xs base g c (end_number xs j) w d
      → Reads xs base (f then g) a (end_number xs j) (v, w) d
  ends-then i j l h k = rw (← (ends xs i j l)) (then-reads h (λ e. k))

-- ---- single bytes with limits

bytes-first : (most : ℕ) (limits xs : List ℕ) (p : ℕ)
    → first (bytes_number (most ∷ []) xs p) (bytes_number limits xs (suc p)) ≡ bytes_number (most ∷ limits) xs p
unfolding bytes_number
bytes-first most limits xs p = by (leb (length xs) p) (leb (at xs p) most)
  where
    others : ℕ
    others = bytes_number limits xs (suc p)

    by : (a b : Bool) → first (cond a 9 (cond b 0 10)) others ≡ cond a 9 (cond b others 10)
    by true b = refl
    by false true = refl
    by false false = refl

module _ {xs : List ℕ} {base : ℕ} where
  pub bytes-then : {A B : Type 0} {f : Borsh A} {g : Borsh B} (most : ℕ) (limits : List ℕ) (a : ℕ) {v : A} {w : B} {c : ℕ}
      → Reads xs base f a (bytes_number (most ∷ []) xs (base + a)) v (a + 1)
      → Reads xs base g (a + 1) (bytes_number limits xs (base + (a + 1))) w c
      → Reads xs base (f then g) a (bytes_number (most ∷ limits) xs (base + a)) (v, w) c
  bytes-then most limits a h k =
      let e : base + (a + 1) ≡ suc (base + a) = omega arith in
      rw (← (bytes-first most limits xs (base + a))) (then-reads h (λ z. rw (← e) k))

module _ (xs : List ℕ) (base : ℕ) where
  one_byte : (a : ℕ) → Reads xs base (int 1) a (cond (leb (length xs) (base + a)) 9 0) (at xs (base + a)) (a + 1)
  one_byte a =
      let e : suc (base + a) ≡ base + (a + 1) = omega arith in
      rw (← (leb-suc-suc (length xs) (base + a)), e, ← (word-one xs (base + a))) (int-reads xs base 1 a (omega arith))

  pub byte_reads : (a : ℕ) → at xs (base + a) < 256
      → Reads xs base (int 1) a (bytes_number (255 ∷ []) xs (base + a)) (at xs (base + a)) (a + 1)
  unfolding bytes_number
  byte_reads a h = rw (le-leb (at xs (base + a)) 255 (omega arith)) (one_byte a)

  pub enum-reads : {A : Type 0} (most : ℕ) (number : A → ℕ) (case : ℕ → A) (a : ℕ)
      → Reads xs base (enum (suc most) number case) a (bytes_number (most ∷ []) xs (base + a)) (case (at xs (base + a))) (a + 1)
  unfolding enum bytes_number
  enum-reads most number case a =
      let b = at xs (base + a) in
      rw (← (leb-suc-suc b most), ← (first-tests (leb (length xs) (base + a)) (ltb b (suc most))))
      (mapped-reads case number (only-reads (λ b. ltb b (suc most)) (one_byte a)))

  pub bool-reads : (a : ℕ) → Reads xs base bool a (bytes_number (1 ∷ []) xs (base + a)) (flag_of (at xs (base + a))) (a + 1)
  unfolding bool
  bool-reads a = enum-reads 1 _ flag_of a

pub option-reads : {xs : List ℕ} {base : ℕ} {A : Type 0} {f : Borsh A} {a n : ℕ} {b : Bool} {c m : ℕ} {v : A} {d : ℕ}
    → Reads xs base bool a n b c → Reads xs base f c m v d
    → Reads xs base (option f) a (first n (cond b m 0)) (cond b (Some v) None) (cond b d c)
unfolding option
option-reads {xs} {base} {A} {f} {a} {n} {b} {c} {m} {v} {d} h k = record { told = rw h.told (next-tell _ n _ b _ _ _ (λ e. by b)) }
  where
    by : (b : Bool) → cond b (next (λ v end. Ok (Some v, end)) (f.read (drop (base + c) xs))) (Ok (None, drop (base + c) xs))
        ≡ tell (cond b m 0) (cond b (Some v) None) (drop (base + cond b d c) xs)
    by true = rw k.told (tell-map Some m v _)
    by false = refl

-- ---- values of one size, one after the other

module _ {xs : List ℕ} {base : ℕ} where
  pub array-reads : {f : Borsh ℕ} (w : ℕ) {one : ℕ → ℕ} (all : ℕ → ℕ → ℕ)
      → ((a : ℕ) → Reads xs base f a (one a) (word w xs (base + a)) (a + w))
      → ((a : ℕ) → all 0 a ≡ 0) → ((n a : ℕ) → first (one a) (all n (a + w)) ≡ all (suc n) a)
      → (n a : ℕ) → Reads xs base (array n f) a (all n a) (row n w (base + a) xs) (a + n * w)
  unfolding array read_all row
  array-reads {f} w {one} all h z s n a = record { told = go n [] a }
    where
      go : (n : ℕ) (before : List ℕ) (a : ℕ) → read_all (λ before. f.read) n before (drop (base + a) xs)
          ≡ tell (all n a) (row n w (base + a) xs) (drop (base + (a + n * w)) xs)
      go zero before a = rw (z a, zero-mul w, add-zero a)
      go (suc n) before a =
          let v = word w xs (base + a) in
          let l : a + suc n * w ≡ a + w + n * w = omega (arith, suc-mul n w) in
          rw (← (s n a), l, (h a).told, add_assoc base a w)
          (next-tell _ (one a) (all n (a + w)) v _ _ _
          (λ e. rw (go n (v ∷ before) (a + w)) (tell-map {B = List ℕ} (λ vs. v ∷ vs) (all n (a + w)) (row n w (base + (a + w)) xs) _)))

-- single bytes, of any value
pub bytes_read : (xs : List ℕ) (base n a : ℕ)
    → Reads xs base (array (suc n) (int 1)) a (end_number xs (base + (a + suc n))) (row (suc n) 1 (base + a) xs) (a + suc n * 1)
bytes_read xs base n a = array-reads 1 all (λ a. int-reads xs base 1 a (omega arith)) (λ a. refl) step (suc n) a
  where
    all : ℕ → ℕ → ℕ
    all zero a = 0
    all (suc n) a = end_number xs (base + (a + suc n))

    step : (n a : ℕ) → first (end_number xs (base + (a + 1))) (all n (a + 1)) ≡ all (suc n) a
    step zero a = first-none (end_number xs (base + (a + 1)))
    step (suc n) a =
        let e : a + 1 + suc n ≡ a + suc (suc n) = omega arith in
        rw e (ends xs (base + (a + 1)) (base + (a + suc (suc n))) (omega arith))
