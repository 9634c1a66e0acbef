-- The page index walked: testing its entries from the last one down. What is true of
-- the entries passed goes over to one more; what fails at one of them fails for the whole index; an index without opened pages is sound.
-- Assumes nothing.
use mathlib.Core.Path.{◌≡◌, refl, sym, ap, ◌∙◌}
use mathlib.Core.Bool.{Bool, true, false, not, ◌&&◌, ◌||◌, and-false}
use mathlib.Core.List.{List, [], ◌∷◌, ◌++◌, append_assoc, append-nil}
use Prim.Native.Nat.{ℕ, zero, suc, ◌<◌, ◌≤◌}
use native.Mathlib.Omega.{arith}
use native.Mathlib.Decide.{ℕ_discrete}
use borrow.Author.Tests.{eq-eqb, ne_eqb, le-leb, lt-leb}
use lib.Dec.{leb, eqb}
use lib.ListN.{length, get_or, set, replicate, get_or-replicate}
use lib.Seq.{get_or-set_same, get_or-set_other}
use Rattle.std.specs.List.{push}
use Rattle.settle.specs.Pages.{opened, holds, distinct, within, slots_sound}

-- an entry is marked if it is a slot's and the list has it
abbrev pub mark : ℕ → List ℕ → Bool
mark k xs = not (eqb k 0) && holds k xs

within-whole : (n : ℕ) (front passed : List ℕ) → within n passed ≡ false → within n (front ++ passed) ≡ false
unfolding within
within-whole n [] passed h = h
within-whole n (x ∷ front) passed h = rw (within-whole n front passed h) (and-false (leb x n))

distinct-whole : (front passed : List ℕ) → distinct passed ≡ false → distinct (front ++ passed) ≡ false
unfolding distinct
distinct-whole [] passed h = h
distinct-whole (x ∷ front) passed h = rw (distinct-whole front passed h) (and-false (eqb x 0 || not (holds x (front ++ passed))))

-- a page is free to have the entry x, as the mark says
unmarked : (x : ℕ) (xs : List ℕ) (b : Bool) → mark x xs ≡ b → (eqb x 0 || not (holds x xs)) ≡ not b
unmarked x xs b e = by (eqb x 0) (holds x xs) e
  where
    by : (z h : Bool) → (not z && h) ≡ b → (z || not h) ≡ not b
    by true h e = rw (← e)
    by false h e = rw (← e)

-- what the walk knows with a part of the index left: the entries passed are within n, distinct, and marked
pub record Walked (n : ℕ) (xs left : List ℕ) (marked : List Bool) : Type 0 where
  pub passed : List ℕ
  pub whole : left ++ passed ≡ xs
  pub inside : within n passed ≡ true
  pub apart : distinct passed ≡ true
  pub marks : (k : ℕ) → k < 385 → get_or marked k false ≡ mark k passed

pub none_passed : (n : ℕ) (xs : List ℕ) → Walked n xs xs (replicate 385 false)
unfolding within distinct holds
none_passed n xs =
    record { passed = []; whole = append-nil xs; inside = refl; apart = refl; marks = λ k h. get_or-replicate 385 k false false h ∙ sym (and-false (not (eqb k 0))) }

module _ (n : ℕ) (xs left front : List ℕ) (x : ℕ) (marked : List Bool) (w : Walked n xs left marked) (last : left ≡ push front x) where
  split : front ++ (x ∷ w.passed) ≡ xs
  split = sym (append_assoc front (x ∷ []) w.passed) ∙ (ap (λ l. l ++ w.passed) (sym last) ∙ w.whole)

  -- an entry past n
  pub past : n < x → n ≡ opened xs → slots_sound xs ≡ false
  unfolding slots_sound within
  past l e = let beyond = within-whole n front (x ∷ w.passed) (rw (lt-leb x n l)) in rw (← e, rw split at beyond)

  -- an entry that a page passed has
  pub twice : x < 385 → get_or marked x false ≡ true → slots_sound xs ≡ false
  unfolding slots_sound distinct
  twice h m =
      let again = distinct-whole front (x ∷ w.passed) (rw (unmarked x w.passed true (sym (w.marks x h) ∙ m))) in
      rw (rw split at again) (and-false (within (opened xs) xs))

  -- one entry more
  pub next : x ≤ n → n < 385 → length marked ≡ 385 → get_or marked x false ≡ false → Walked n xs front (set marked x (not (eqb x 0)))
  unfolding within distinct holds
  next l b g m =
      record {
        passed = x ∷ w.passed;
        whole = split;
        inside = rw (le-leb x n l) w.inside;
        apart = rw (unmarked x w.passed false (sym (w.marks x (omega arith)) ∙ m)) w.apart;
        marks = λ k f. by k f (ℕ_discrete k x);
      }
    where
      same : (z c : Bool) → z ≡ true → (c && (z || holds x w.passed)) ≡ c
      same z true e = rw e
      same z false e = refl

      by : (k : ℕ) → k < 385 → Dec (k ≡ x) → get_or (set marked x (not (eqb x 0))) k false ≡ (not (eqb k 0) && (eqb k x || holds k w.passed))
      by k f (yes e) = rw e (get_or-set_same marked x _ false (omega arith) ∙ sym (same _ _ (eq-eqb x x refl)))
      by k f (no q) = get_or-set_other marked x k _ false q ∙ w.marks k f ∙ rw (ne_eqb k x q)

-- all of them
pub all-passed : (n : ℕ) (xs left : List ℕ) (marked : List Bool) → Walked n xs left marked → length left ≡ 0 → n ≡ opened xs → slots_sound xs ≡ true
unfolding slots_sound
all-passed n xs [] marked w l e = rw (← e, ← w.whole, w.inside, w.apart)
all-passed n xs (x ∷ left) marked w l e = absurd (omega (arith, l))

-- without opened pages all entries are 0
zeros-sound : (xs : List ℕ) → opened xs ≡ 0 → (within 0 xs && distinct xs) ≡ true
unfolding opened within distinct
zeros-sound [] e = refl
zeros-sound (zero ∷ xs) e = zeros-sound xs e
zeros-sound (suc x ∷ xs) e = absurd (omega arith)

pub none-opened : (xs : List ℕ) → opened xs ≡ 0 → slots_sound xs ≡ true
unfolding slots_sound
none-opened xs e = rw e (zeros-sound xs e)
