-- The 1,024 charges of a slot, lent, changed by a rule and put back into their place, are the rule on that slot of the store:
-- the two lists agree before the slot, in it, and after it. Assumes nothing.
use mathlib.Core.Path.{◌≡◌, sym, ap, subst, ◌∙◌}
use mathlib.Core.List.{List, ◌++◌}
use Prim.Native.Nat.{ℕ, ◌+◌, ◌-◌, ◌*◌, ◌<◌, ◌≤◌}
use native.Mathlib.Omega.{arith}
use native.Mathlib.Decide.{dec_lt}
use borrow.Rule.Slice.PartMut.{put_mid, mid_of, same_len_mid}
use lib.ListN.{length, get_or, take, drop, length-drop, get_or-append}
use lib.Seq.{length-take-le, get_or-append-add, get_or-take, get_or-drop, ext_get_or}
use Rattle.lists.specs.Lists.{mapi}
use Rattle.cell.specs.Cell.{on_slot}
use Rattle.lists.proofs.Maps.{length-mapi, get_or-mapi}
use Rattle.cell.proofs.OnSlot.{length-on_slot, get_or-on_slot-inside, get_or-on_slot-outside}

-- ys in the place of the n elements from a on
module _ (a n : ℕ) (xs ys : List ℕ) (l : length ys ≡ n) (fits : a + n ≤ length xs) where
  head : length (take a xs) ≡ a
  head = length-take-le a xs (omega arith)

  put-before : (i : ℕ) → i < a → get_or (put_mid a n xs ys) i 0 ≡ get_or xs i 0
  put-before i h = get_or-append (take a xs) _ 0 i (rw head h) ∙ get_or-take a xs i 0 h

  past : (j : ℕ) → get_or (put_mid a n xs ys) (a + j) 0 ≡ get_or (ys ++ drop n (drop a xs)) j 0
  past j = ap (λ (k : ℕ). get_or (put_mid a n xs ys) (k + j) 0) (sym head) ∙ get_or-append-add (take a xs) (ys ++ drop n (drop a xs)) j 0

  put-inside : (j : ℕ) → j < n → get_or (put_mid a n xs ys) (a + j) 0 ≡ get_or ys j 0
  put-inside j h = past j ∙ get_or-append ys _ 0 j (rw l h)

  put-after : (j : ℕ) → get_or (put_mid a n xs ys) (a + (n + j)) 0 ≡ get_or xs (a + (n + j)) 0
  put-after j =
      past (n + j)
      ∙ ap (λ (k : ℕ). get_or (ys ++ drop n (drop a xs)) (k + j) 0) (sym l)
      ∙ get_or-append-add ys (drop n (drop a xs)) j 0
      ∙ get_or-drop n (drop a xs) j 0
      ∙ get_or-drop a xs (n + j) 0

module _ (s : ℕ) (f : ℕ → ℕ → ℕ) (qs : List ℕ) (fits : s * 1024 + 1024 ≤ length qs) where
  lent : List ℕ
  lent = mid_of (s * 1024) 1024 qs

  length-lent : length lent ≡ 1024
  unfolding lent
  length-lent = length-take-le 1024 (drop (s * 1024) qs) (rw length-drop (omega arith))

  Same : ℕ → Type 0
  Same i = get_or (put_mid (s * 1024) 1024 qs (mapi f 0 lent)) i 0 ≡ get_or (on_slot s f qs) i 0

  same-inside : (j : ℕ) → j < 1024 → Same (s * 1024 + j)
  unfolding lent Same
  same-inside j h =
      put-inside (s * 1024) 1024 qs (mapi f 0 lent) (length-mapi f 0 lent ∙ length-lent) fits j h
      ∙ get_or-mapi f lent j (rw length-lent h)
      ∙ ap (f j) (get_or-take 1024 (drop (s * 1024) qs) j 0 h ∙ get_or-drop (s * 1024) qs j 0)
      ∙ sym (get_or-on_slot-inside s f qs j h (omega arith))

  same : (i : ℕ) → Dec (i < s * 1024) → Dec (i < s * 1024 + 1024) → Same i
  unfolding lent Same
  same i (yes h) d =
      put-before (s * 1024) 1024 qs (mapi f 0 lent) (length-mapi f 0 lent ∙ length-lent) fits i h
      ∙ sym (get_or-on_slot-outside s f qs i (omega arith))
  same i (no h) (yes g) = let e : s * 1024 + (i - s * 1024) ≡ i = omega arith in subst Same e (same-inside (i - s * 1024) (omega arith))
  same i (no h) (no g) =
      let e : s * 1024 + (1024 + (i - (s * 1024 + 1024))) ≡ i = omega arith in
      (rw e at (put-after (s * 1024) 1024 qs (mapi f 0 lent) (length-mapi f 0 lent ∙ length-lent) fits (i - (s * 1024 + 1024))))
      ∙ sym (get_or-on_slot-outside s f qs i (omega arith))

  pub slot-back : put_mid (s * 1024) 1024 qs (mapi f 0 (mid_of (s * 1024) 1024 qs)) ≡ on_slot s f qs
  unfolding lent Same
  slot-back =
      ext_get_or 0 _ _ (same_len_mid (s * 1024) 1024 qs (mapi f 0 lent) (length-mapi f 0 lent) ∙ sym (length-on_slot s f qs))
      (λ i h. same i (dec_lt i (s * 1024)) (dec_lt i (s * 1024 + 1024)))
