-- Runs of stores: in two parts, past the end, at the start, in the place of a part; and the stores of a loop, a value or a stretch more at a
-- time. Assumes nothing.
use mathlib.Core.Path.{◌≡◌, refl, sym, ◌∙◌}
use mathlib.Core.List.{List, [], ◌∷◌, ◌++◌, append_assoc}
use Prim.Native.Nat.{ℕ, suc, ◌+◌, ◌-◌, ◌<◌, ◌≤◌}
use native.Mathlib.Nat.{add-zero}
use native.Mathlib.Omega.{arith}
use borrow.Rule.Slice.PartMut.{put_mid}
use lib.ListN.{length, get_or, set, take, drop, length-take, length-drop, length-set}
use lib.Seq.{sets, sets-eq, set_out, take-suc, take-add, take-length, get_or-drop, drop-drop}

pub sets-append : (l : List ℕ) (i : ℕ) (xs ys : List ℕ) → sets l i (xs ++ ys) ≡ sets (sets l i xs) (i + length xs) ys
sets-append l i [] ys = rw (add-zero i)
sets-append l i (x ∷ xs) ys =
    let e : i + suc (length xs) ≡ suc i + length xs = omega arith in
    rw e (sets-append (set l i x) (suc i) xs ys)

pub sets-out : (l : List ℕ) (i : ℕ) (vs : List ℕ) → length l ≤ i → sets l i vs ≡ l
sets-out l i [] h = refl
sets-out l i (v ∷ vs) h = rw (set_out l i v h) (sets-out l (suc i) vs (omega (arith, length-set l i v)))

-- one list stored at the beginning of another
pub put_front : (new out vs : List ℕ) (n : ℕ) → new ≡ vs → n ≡ length vs → length vs ≤ length out → new ++ drop (n - 0) out ≡ sets out 0 vs
put_front new out vs n e d h = let f : n - 0 ≡ 0 + length vs = omega arith in rw (e, f) (sym (sets-eq vs out 0 (omega arith)))

-- ys in the place of as many numbers
pub put-sets : (a n : ℕ) (l ys : List ℕ) → length ys ≡ n → a + n ≤ length l → put_mid a n l ys ≡ sets l a ys
put-sets a n l ys e h =
    rw (drop-drop n a l, ← e)
    (sym (sets-eq ys l a (rw e h) ∙ append_assoc (take a l) ys (drop (a + length ys) l)))

-- ---- the stores of a loop, one after the other, and of a page after the other; they are those of vs from n on

pub sets-turn : (l vs ys : List ℕ) (n a v : ℕ) → ys ≡ sets l n (take (a - n) (drop n vs)) → v ≡ get_or vs a 0 → n ≤ a → a < length vs
    → set ys a v ≡ sets l n (take (a + 1 - n) (drop n vs))
sets-turn l vs ys n a v e d g h =
    let k : a - n < length (drop n vs) = simp length-drop (omega arith) in
    let m : n + length (take (a - n) (drop n vs)) ≡ a = simp (length-take, length-drop) (omega arith) in
    let more : a + 1 - n ≡ suc (a - n) = omega arith in
    let there : n + (a - n) ≡ a = omega arith in
    let b : get_or (drop n vs) (a - n) 0 ≡ get_or vs a 0 = get_or-drop n vs (a - n) 0 ∙ rw there in
    rw (d, e, more, take-suc (drop n vs) (a - n) 0 k, sets-append l n (take (a - n) (drop n vs)) (get_or (drop n vs) (a - n) 0 ∷ []), m, b)

pub sets_more : (l vs ys zs : List ℕ) (n m : ℕ) → ys ≡ sets l 0 (take n vs) → zs ≡ sets ys n (take m (drop n vs)) → n ≤ length vs
    → zs ≡ sets l 0 (take (n + m) vs)
sets_more l vs ys zs n m e d h =
    let k : 0 + length (take n vs) ≡ n = simp length-take (omega arith) in
    d ∙ rw (e, take-add n m vs, sets-append l 0 (take n vs) (take m (drop n vs)), k)

pub sets-all : (l vs ys : List ℕ) (i : ℕ) → ys ≡ sets l 0 (take i vs) → i ≡ length vs → ys ≡ sets l 0 vs
sets-all l vs ys i e d = e ∙ rw (d, take-length vs)
