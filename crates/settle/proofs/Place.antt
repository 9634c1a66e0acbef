-- Bytes replaced in place, one stretch of addresses: one more byte, two stretches side by side, at most one event a byte; and what
-- settling senses is such a stretch. Assumes nothing.
use mathlib.Core.Path.{◌≡◌, refl, sym, ◌∙◌}
use mathlib.Core.Bool.{Bool, true, false, cond, ◌&&◌, and-false}
use mathlib.Core.List.{List, [], ◌∷◌, ◌++◌}
use Prim.Native.Nat.{ℕ, suc, ◌+◌, ◌-◌, ◌*◌, ◌/◌, ◌≤◌, ◌<◌, max}
use native.Mathlib.Nat.{lt_of_not-le}
use native.Mathlib.Omega.{arith}
use native.Mathlib.Decide.{dec_le, dec_lt, ℕ_discrete}
use borrow.Author.Tests.{leb-true, ltb-true, le-leb, lt-leb, lt-ltb, le-ltb, eq-eqb}
use lib.ListN.{length, set, drop, length-set, length-drop, get_or-eq_default}
use lib.Seq.{ext_get_or, get_or-set_same, get_or-set_other, get_or-drop}
use lib.Dec.{leb, ltb, eqb}
use Rattle.registers.specs.declared.Pulse.{Pulse}
use Rattle.lists.specs.Lists.{at, mapi}
use Rattle.lists.proofs.Maps.{length-mapi, get_or-mapi, mapi-same}
use Rattle.settle.specs.Settling.{covers, normal_byte, resensed, spanned, change, changes}

-- an element that the rule keeps, past the end too
pub mapi-keeps : (f : ℕ → ℕ → ℕ) (xs : List ℕ) (a : ℕ) → f a (at xs a) ≡ at xs a → at (mapi f 0 xs) a ≡ at xs a
mapi-keeps f xs a e = by (dec_lt a (length xs))
  where
    by : Dec (a < length xs) → at (mapi f 0 xs) a ≡ at xs a
    by (yes h) = get_or-mapi f xs a h ∙ e
    by (no h) = get_or-eq_default (mapi f 0 xs) 0 (omega (arith, length-mapi f 0 xs)) ∙ sym (get_or-eq_default xs 0 (omega arith))

module _ (lo hi : ℕ) (v : ℕ → ℕ) (l : List ℕ) where
  pub length-spanned : length (spanned lo hi v l) ≡ length l
  unfolding spanned
  length-spanned = length-mapi _ 0 l

  pub spanned-in : (a : ℕ) → lo ≤ a → a < hi → a < length l → at (spanned lo hi v l) a ≡ v a
  unfolding spanned
  spanned-in a h k m = get_or-mapi _ l a m ∙ rw (le-leb lo a h, lt-ltb a hi k)

  pub spanned-low : (a : ℕ) → a < lo → at (spanned lo hi v l) a ≡ at l a
  unfolding spanned
  spanned-low a h = mapi-keeps _ l a (rw (lt-leb lo a h))

  pub spanned-high : (a : ℕ) → hi ≤ a → at (spanned lo hi v l) a ≡ at l a
  unfolding spanned
  spanned-high a h = mapi-keeps _ l a (rw (le-ltb a hi h, and-false (leb lo a)))

  -- none yet
  pub spanned-none : hi ≤ lo → spanned lo hi v l ≡ l
  spanned-none h = ext_get_or 0 (spanned lo hi v l) l length-spanned (λ a b. by a (dec_lt a lo))
    where
      by : (a : ℕ) → Dec (a < lo) → at (spanned lo hi v l) a ≡ at l a
      by a (yes b) = spanned-low a b
      by a (no b) = spanned-high a (omega arith)

  -- from hi on the bytes are as before: with `changes-set`, the events of one more byte
  pub spanned-rest : drop hi (spanned lo hi v l) ≡ drop hi l
  spanned-rest =
      ext_get_or 0 (drop hi (spanned lo hi v l)) (drop hi l) (simp (length-drop, length-spanned))
      (λ i b. get_or-drop hi (spanned lo hi v l) i 0 ∙ spanned-high (hi + i) (omega arith) ∙ sym (get_or-drop hi l i 0))

-- values that agree on the stretch
pub spanned-same : (lo hi : ℕ) (v w : ℕ → ℕ) (l : List ℕ) → ((a : ℕ) → lo ≤ a → a < hi → a < length l → v a ≡ w a)
    → spanned lo hi v l ≡ spanned lo hi w l
unfolding spanned
spanned-same lo hi v w l e = mapi-same _ _ l (λ a h. by a h (leb lo a) (ltb a hi) refl refl)
  where
    by : (a : ℕ) → a < length l → (b c : Bool) → leb lo a ≡ b → ltb a hi ≡ c → cond (b && c) (v a) (at l a) ≡ cond (b && c) (w a) (at l a)
    by a h true true p q = e a (leb-true lo a p) (ltb-true a hi q) h
    by a h true false p q = refl
    by a h false c p q = refl

-- one more byte
pub spanned-suc : (lo hi : ℕ) (v : ℕ → ℕ) (l : List ℕ) → lo ≤ hi → hi < length l → spanned lo (suc hi) v l ≡ set (spanned lo hi v l) hi (v hi)
spanned-suc lo hi v l h k =
    let s = spanned lo hi v l in
    ext_get_or 0 (spanned lo (suc hi) v l) (set s hi (v hi))
    (length-spanned lo (suc hi) v l ∙ sym (length-set s hi (v hi) ∙ length-spanned lo hi v l))
    (λ a b. by a (omega (arith, length-spanned lo (suc hi) v l)) (ℕ_discrete a hi) (dec_le lo a) (dec_lt a hi))
  where
    by : (a : ℕ) → a < length l → Dec (a ≡ hi) → Dec (lo ≤ a) → Dec (a < hi)
        → at (spanned lo (suc hi) v l) a ≡ at (set (spanned lo hi v l) hi (v hi)) a
    by a m (yes e) c d =
        rw e (spanned-in lo (suc hi) v l hi h (omega arith) k ∙ sym (get_or-set_same (spanned lo hi v l) hi (v hi) 0 (omega (arith, length-spanned lo hi v l))))
    by a m (no n) (yes c) (yes d) =
        spanned-in lo (suc hi) v l a c (omega arith) m ∙ sym (get_or-set_other (spanned lo hi v l) hi a (v hi) 0 n ∙ spanned-in lo hi v l a c d m)
    by a m (no n) (yes c) (no d) =
        spanned-high lo (suc hi) v l a (omega arith) ∙ sym (get_or-set_other (spanned lo hi v l) hi a (v hi) 0 n ∙ spanned-high lo hi v l a (omega arith))
    by a m (no n) (no c) d =
        spanned-low lo (suc hi) v l a (omega arith) ∙ sym (get_or-set_other (spanned lo hi v l) hi a (v hi) 0 n ∙ spanned-low lo hi v l a (omega arith))

-- two stretches side by side
pub spanned-join : (lo mid hi : ℕ) (v w : ℕ → ℕ) (l : List ℕ) → lo ≤ mid → mid ≤ hi → ((a : ℕ) → lo ≤ a → a < mid → v a ≡ w a)
    → spanned mid hi w (spanned lo mid v l) ≡ spanned lo hi w l
spanned-join lo mid hi v w l h k e =
    let s = spanned lo mid v l in
    ext_get_or 0 (spanned mid hi w s) (spanned lo hi w l)
    (length-spanned mid hi w s ∙ length-spanned lo mid v l ∙ sym (length-spanned lo hi w l))
    (λ a b. by a (omega (arith, length-spanned mid hi w s, length-spanned lo mid v l)) (dec_lt a lo) (dec_lt a mid) (dec_lt a hi))
  where
    by : (a : ℕ) → a < length l → Dec (a < lo) → Dec (a < mid) → Dec (a < hi)
        → at (spanned mid hi w (spanned lo mid v l)) a ≡ at (spanned lo hi w l) a
    by a m (yes b) c d = spanned-low mid hi w (spanned lo mid v l) a (omega arith) ∙ spanned-low lo mid v l a b ∙ sym (spanned-low lo hi w l a b)
    by a m (no b) (yes c) d =
        spanned-low mid hi w (spanned lo mid v l) a c ∙ spanned-in lo mid v l a (omega arith) c m ∙ e a (omega arith) c
        ∙ sym (spanned-in lo hi w l a (omega arith) (omega arith) m)
    by a m (no b) (no c) (yes d) =
        spanned-in mid hi w (spanned lo mid v l) a (omega arith) d (omega (arith, length-spanned lo mid v l)) ∙ sym (spanned-in lo hi w l a (omega arith) d m)
    by a m (no b) (no c) (no d) =
        spanned-high mid hi w (spanned lo mid v l) a (omega arith) ∙ spanned-high lo mid v l a (omega arith) ∙ sym (spanned-high lo hi w l a (omega arith))

-- ---- at most one event a byte

-- a rule that keeps all but bytes lo to hi - 1, from byte k on
changed-count : (f : ℕ → ℕ → ℕ) (lo hi a k : ℕ) (l : List ℕ) → ((i x : ℕ) → (lo ≤ i → i < hi → ⊥) → f i x ≡ x)
    → length (changes a l (mapi f k l)) ≤ hi - max lo k
unfolding changes
changed-count f lo hi a k [] keeps = omega arith
changed-count f lo hi a k (x ∷ xs) keeps = by (changed-count f lo hi (suc a) (suc k) xs keeps) (dec_le lo k) (dec_lt k hi)
  where
    rest : List ℕ
    rest = changes (suc a) xs (mapi f (suc k) xs)

    kept : length rest ≤ hi - max lo (suc k) → (lo ≤ k → k < hi → ⊥) → length (change (eqb x (f k x)) a (f k x) ++ rest) ≤ hi - max lo k
    kept r n = rw (keeps k x n, eq-eqb x x refl) (omega arith)

    one : (b : Bool) → length rest ≤ hi - max lo (suc k) → lo ≤ k → k < hi → length (change b a (f k x) ++ rest) ≤ hi - max lo k
    one true r c d = omega arith
    one false r c d = omega arith

    by : length rest ≤ hi - max lo (suc k) → Dec (lo ≤ k) → Dec (k < hi) → length (change (eqb x (f k x)) a (f k x) ++ rest) ≤ hi - max lo k
    by r (yes c) (yes d) = one (eqb x (f k x)) r c d
    by r (yes c) (no d) = kept r (λ _ e. d e)
    by r (no c) d = kept r (λ e _. c e)

pub changes-count : (lo hi : ℕ) (v : ℕ → ℕ) (a : ℕ) (l : List ℕ) → length (changes a l (spanned lo hi v l)) ≤ hi - lo
unfolding spanned
changes-count lo hi v a l = omega (arith, changed-count (λ i x. cond (leb lo i && ltb i hi) (v i) x) lo hi a 0 l (λ i x n. by i x n (leb lo i) (ltb i hi) refl refl))
  where
    by : (i x : ℕ) → (lo ≤ i → i < hi → ⊥) → (b c : Bool) → leb lo i ≡ b → ltb i hi ≡ c → cond (b && c) (v i) x ≡ x
    by i x n true true e f = absurd (n (leb-true lo i e) (ltb-true i hi f))
    by i x n true false e f = refl
    by i x n false c e f = refl

-- ---- what settling senses

leb-both : (m n k l : ℕ) → (m ≤ n → k ≤ l) → (k ≤ l → m ≤ n) → leb m n ≡ leb k l
leb-both m n k l f g = by (dec_le m n)
  where
    by : Dec (m ≤ n) → leb m n ≡ leb k l
    by (yes h) = le-leb m n h ∙ sym (le-leb k l (f h))
    by (no h) = lt-leb m n (omega arith) ∙ sym (lt-leb k l (lt_of_not-le (λ z. h (g z))))

pub resensed-spanned : (p : Pulse) (q : ℕ → ℕ) (l : List ℕ)
    → resensed p q l ≡ spanned (p.first * 128) ((p.first + p.pages) * 128) (normal_byte q) l
unfolding resensed spanned covers
resensed-spanned p q l =
    mapi-same _ _ l
    (λ a h. let e : leb p.first (a / 128) ≡ leb (p.first * 128) a = leb-both p.first (a / 128) (p.first * 128) a (λ z. omega arith) (λ z. omega arith) in
    let f : ltb (a / 128) (p.first + p.pages) ≡ ltb a ((p.first + p.pages) * 128) =
    leb-both (suc (a / 128)) (p.first + p.pages) (suc a) ((p.first + p.pages) * 128) (λ z. omega arith) (λ z. omega arith) in
    rw (e, f))
