-- A stretch of the array stored in place with an event word for each change: none yet, one more byte, a further stretch; and the words
-- are at most one a byte. Assumes nothing.
use mathlib.Core.Path.{◌≡◌, refl, ap, sym, ◌∙◌}
use mathlib.Core.Logic.{◌≢◌}
use mathlib.Core.List.{List, [], ◌∷◌, ◌++◌, append-nil}
use Prim.Native.Nat.{ℕ, suc, ◌+◌, ◌-◌, ◌≤◌, ◌<◌}
use native.Mathlib.Nat.{zero-add}
use native.Mathlib.Omega.{arith}
use borrow.Author.Tests.{ne_eqb}
use lib.ListN.{length, set, take, drop, length-append, take-append-drop}
use lib.Seq.{sets, length-sets, set-get_or, get_or-take, ext_get_or, length-take-le}
use Rattle.lists.proofs.Stores.{sets-append}
use Rattle.lists.specs.Lists.{at}
use Rattle.settle.specs.Settling.{spanned, changes, word, byte_kind}
use Rattle.settle.proofs.Loop.{changes-same, changes-append, changes-set}
use Rattle.settle.proofs.Place.{length-spanned, spanned-same, spanned-low, spanned-high, spanned-none, spanned-rest, spanned-suc, spanned-join, changes-count}

-- ---- the changes of two stretches side by side

-- m has l's elements from k on, and n has m's before
changes-join : (l m n : List ℕ) (k : ℕ) → k ≤ length l → length m ≡ length l → length n ≡ length l
    → drop k m ≡ drop k l → take k n ≡ take k m → changes 0 l n ≡ changes 0 l m ++ changes 0 m n
changes-join l m n k h e f d t =
    let first : changes 0 l m ≡ changes 0 (take k l) (take k m) = parts l m h (sym e) ∙ rw (d, changes-same k (drop k l)) (append-nil _) in
    let second : changes 0 m n ≡ changes k (drop k l) (drop k n) = parts m n (rw e h) (e ∙ sym f) ∙ rw (t, changes-same 0 (take k m), d) in
    parts l n h (sym f) ∙ rw (t, first, second)
  where
    parts : (xs ys : List ℕ) → k ≤ length xs → length xs ≡ length ys
        → changes 0 xs ys ≡ changes 0 (take k xs) (take k ys) ++ changes k (drop k xs) (drop k ys)
    parts xs ys h e =
        let a = length-take-le k xs h in
        let b : k ≤ length ys = omega arith in
        ap (λ r. changes 0 r ys) (sym (take-append-drop k xs))
        ∙ ap (λ r. changes 0 (take k xs ++ drop k xs) r) (sym (take-append-drop k ys))
        ∙ changes-append 0 (take k xs) (drop k xs) (take k ys) (drop k ys) (a ∙ sym (length-take-le k ys b))
        ∙ rw (a, zero-add)

-- ---- what is stored from lo on

pub record Stored (array₀ events₀ : List ℕ) (count lo : ℕ) (v : ℕ → ℕ) (hi : ℕ) (array events : List ℕ) (n : ℕ) : Type 0 where
  pub array_is : array ≡ spanned lo hi v array₀
  pub events_are : events ≡ sets events₀ count (changes 0 array₀ array)
  pub count_is : n ≡ count + length (changes 0 array₀ array)

pub stored-none : (array₀ events₀ : List ℕ) (count lo : ℕ) (v : ℕ → ℕ) → Stored array₀ events₀ count lo v lo array₀ events₀ count
stored-none array₀ events₀ count lo v =
    record {
      array_is = sym (spanned-none lo lo v array₀ (omega arith));
      events_are = rw (changes-same 0 array₀);
      count_is = rw (changes-same 0 array₀) (omega arith);
    }

module _
    {array₀ events₀ : List ℕ} {count lo : ℕ} {v : ℕ → ℕ} {hi : ℕ} {array events : List ℕ} {n : ℕ}
    (s : Stored array₀ events₀ count lo v hi array events n) where
  pub stored-length : length array ≡ length array₀
  stored-length = ap length s.array_is ∙ length-spanned lo hi v array₀

  pub stored-events : length events ≡ length events₀
  stored-events = ap length s.events_are ∙ length-sets events₀ count (changes 0 array₀ array)

  pub stored-le : n ≤ count + (hi - lo)
  stored-le = omega (arith, s.count_is ∙ ap (λ l. count + length (changes 0 array₀ l)) s.array_is, changes-count lo hi v 0 array₀)

  module _ (h : lo ≤ hi) (k : hi < length array₀) where
    -- a byte that is there already
    pub stored_same : (b : ℕ) → b ≡ v hi → at array hi ≡ b → Stored array₀ events₀ count lo v (suc hi) array events n
    stored_same b g e =
        record {
          array_is = sym (spanned-suc lo hi v array₀ h k ∙ rw (← s.array_is, ← g, ← e) (set-get_or array hi 0));
          events_are = s.events_are;
          count_is = s.count_is;
        }

    -- a byte that changes
    pub stored-changed : (b w : ℕ) → b ≡ v hi → at array hi ≢ b → w ≡ word byte_kind hi b
        → Stored array₀ events₀ count lo v (suc hi) (set array hi b) (set events n w) (n + 1)
    stored-changed b w g e d =
        record {
          array_is = sym (spanned-suc lo hi v array₀ h k ∙ rw (← s.array_is, ← g));
          events_are = rw (one, d, s.count_is, s.events_are) (sym (sets-append events₀ count (changes 0 array₀ array) (word byte_kind hi b ∷ [])));
          count_is = omega (arith, s.count_is, ap length one, length-append (changes 0 array₀ array) (word byte_kind hi b ∷ []));
        }
      where
        old : at array₀ hi ≡ at array hi
        old = sym (ap (λ l. at l hi) s.array_is ∙ spanned-high lo hi v array₀ hi (omega arith))

        one : changes 0 array₀ (set array hi b) ≡ changes 0 array₀ array ++ word byte_kind hi b ∷ []
        one =
            changes-set 0 array₀ array hi b (sym stored-length) k (ap (drop hi) s.array_is ∙ spanned-rest lo hi v array₀)
            ∙ rw (old, ne_eqb (at array hi) b e, zero-add)

  -- a further stretch, with its own changes
  pub stored-further : (hi' : ℕ) (w : ℕ → ℕ) (array' events' : List ℕ) (n' : ℕ) → lo ≤ hi → hi ≤ hi' → hi ≤ length array₀
      → ((a : ℕ) → hi ≤ a → a < hi' → w a ≡ v a) → array' ≡ spanned hi hi' w array → events' ≡ sets events n (changes 0 array array')
      → n' ≡ n + length (changes 0 array array') → Stored array₀ events₀ count lo v hi' array' events' n'
  stored-further hi' w array' events' n' h k m e a x d =
      record {
        array_is =
            a ∙ spanned-same hi hi' w v array (λ i b g _. e i b g)
            ∙ rw s.array_is (spanned-join lo hi hi' v v array₀ h k (λ i b g. refl));
        events_are = rw (join, x, s.count_is, s.events_are) (sym (sets-append events₀ count (changes 0 array₀ array) (changes 0 array array')));
        count_is = omega (arith, s.count_is, ap length join, length-append (changes 0 array₀ array) (changes 0 array array'));
      }
    where
      low : (i : ℕ) → i < hi → at array' i ≡ at array i
      low i b = ap (λ l. at l i) a ∙ spanned-low hi hi' w array i b

      same_length : length array' ≡ length array
      same_length = ap length a ∙ length-spanned hi hi' w array

      long : hi ≤ length array
      long = rw stored-length m

      join : changes 0 array₀ array' ≡ changes 0 array₀ array ++ changes 0 array array'
      join =
          changes-join array₀ array array' hi m stored-length (same_length ∙ stored-length)
          (ap (drop hi) s.array_is ∙ spanned-rest lo hi v array₀)
          (ext_get_or 0 (take hi array') (take hi array)
          (length-take-le hi array' (rw same_length long) ∙ sym (length-take-le hi array long))
          (λ i b. let g : i < hi = omega (arith, length-take-le hi array' (rw same_length long)) in
          get_or-take hi array' i 0 g ∙ low i g ∙ sym (get_or-take hi array i 0 g)))
