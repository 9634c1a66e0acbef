-- Rows of numbers as loops read and write them, for every width: one number more, and all of them.
-- Assumes nothing.
use mathlib.Core.Path.{◌≡◌, refl, sym, ap, ◌∙◌}
use mathlib.Core.List.{List, [], ◌∷◌, ◌++◌, append_assoc, append-nil}
use Prim.Native.Nat.{ℕ, zero, suc, ◌+◌, ◌*◌, ◌%◌, ◌<◌}
use native.Mathlib.Nat.{add-zero, mul-zero, mul-suc, mul_comm, add_assoc}
use native.Mathlib.Numerals.{add-one}
use native.Mathlib.Omega.{arith}
use lib.ListN.{length, get_or, set, take}
use lib.Seq.{take_all, take-suc, take-suc-set}
use Rattle.lists.specs.Lists.{mapi}
use Rattle.lists.proofs.Partly.{partly, partly-turn, partly-all}
use Rattle.rows.specs.Rows.{Field, word, bytes, row, row_bytes, field, begins}

-- ---- reading

-- the list after i turns of a loop that reads a row
abbrev pub filled : ℕ → ℕ → List ℕ → ℕ → List ℕ → List ℕ
filled w place s = partly (λ k x. word w s (place + w * k))

-- one turn more
pub filled-turn : (w place : ℕ) (s : List ℕ) (i : ℕ) (xs ys : List ℕ) (v : ℕ) → ys ≡ filled w place s i xs → v ≡ word w s (place + w * i)
    → set ys i v ≡ filled w place s (i + 1) xs
filled-turn w place s i xs ys v e d = partly-turn (λ k x. word w s (place + w * k)) i xs ys v e d

mapi-row : (w place : ℕ) (s : List ℕ) (i : ℕ) (xs : List ℕ)
    → mapi (λ k x. word w s (place + w * k)) i xs ≡ row (length xs) w (place + w * i) s
unfolding row
mapi-row w place s i [] = refl
mapi-row w place s i (x ∷ xs) =
    let e : place + w * suc i ≡ place + w * i + w = rw (mul-suc w i) (sym (add_assoc place (w * i) w)) in
    ap (λ (l : List ℕ). word w s (place + w * i) ∷ l) (rw (← e) (mapi-row w place s (suc i) xs))

pub filled-all : (w place : ℕ) (s xs : List ℕ) (n : ℕ) → n ≡ length xs → filled w place s n xs ≡ row (length xs) w place s
filled-all w place s xs n e =
    partly-all _ xs n e ∙ mapi-row w place s 0 xs ∙ rw (mul-zero w, add-zero place)

-- ---- writing

row_bytes-append : (w : ℕ) (a b : List ℕ) → row_bytes w (a ++ b) ≡ row_bytes w a ++ row_bytes w b
unfolding row_bytes
row_bytes-append w [] b = refl
row_bytes-append w (x ∷ a) b = rw (row_bytes-append w a b) (sym (append_assoc (bytes w x) (row_bytes w a) (row_bytes w b)))

row_bytes-suc : (w : ℕ) (v : List ℕ) (i : ℕ) → i < length v → row_bytes w (take (i + 1) v) ≡ row_bytes w (take i v) ++ bytes w (get_or v i 0)
unfolding row_bytes
row_bytes-suc w v i h =
    rw (add-one i, take-suc v i 0 h, row_bytes-append w (take i v) (get_or v i 0 ∷ []), append-nil (bytes w (get_or v i 0)))

module _ (w place : ℕ) (l₀ v : List ℕ) where
  pub start : (n : ℕ) → n ≡ place → take n l₀ ≡ take place l₀ ++ row_bytes w (take 0 v)
  unfolding row_bytes
  start n e = rw (e, append-nil (take place l₀))

  -- one number more
  pub more : (l l' : List ℕ) (i m p : ℕ) → i < length v → m ≡ p + w → take (p + w) l' ≡ take p l ++ bytes w (get_or v i 0)
      → take p l ≡ take place l₀ ++ row_bytes w (take i v) → take m l' ≡ take place l₀ ++ row_bytes w (take (i + 1) v)
  more l l' i m p h e f g =
      rw (e, f, g, row_bytes-suc w v i h) (append_assoc (take place l₀) (row_bytes w (take i v)) (bytes w (get_or v i 0)))

  -- all of them
  pub finish : (l : List ℕ) (i m p : ℕ) → i ≡ length v → m ≡ p → take p l ≡ take place l₀ ++ row_bytes w (take i v)
      → take m l ≡ take place l₀ ++ row_bytes w v
  finish l i m p e d g = rw (d, g, e, take_all (length v) v (omega arith))

-- a byte stored
pub put_one : (l : List ℕ) (k b : ℕ) → k < length l → b < 256 → take (k + 1) (set l k b) ≡ take k l ++ bytes 1 b
unfolding bytes
put_one l k b h s = let e : b % 256 ≡ b = omega arith in rw (add-one k, e) (take-suc-set l k b h)

-- a row written after what stands already
pub row-after : (w k n m : ℕ) (l l' v v' ys : List ℕ) → v ≡ v' → length v' ≡ n → m ≡ k + w * n
    → take (k + w * length v) l' ≡ take k l ++ row_bytes w v → take k l ≡ ys → take m l' ≡ ys ++ row_bytes w v'
row-after w k n m l l' v v' ys e f d g h = rw (d, ← f, ← e, g, h)

-- the row k of a list of fields, written after those before it
begins-suc : (fs : List Field) (k : ℕ) → begins fs (suc k) ≡ begins fs k + (field fs k).width * (field fs k).count
begins-suc [] zero = refl
begins-suc [] (suc k) = refl
begins-suc (f ∷ fs) zero = rw (mul_comm f.width f.count) (omega arith)
begins-suc (f ∷ fs) (suc k) = rw (begins-suc fs k) (omega arith)

pub row-next : (fs : List Field) (k : ℕ) (l l' v v' ys : List ℕ) → v ≡ v' → length v' ≡ (field fs k).count
    → take (begins fs k + (field fs k).width * length v) l' ≡ take (begins fs k) l ++ row_bytes (field fs k).width v
    → take (begins fs k) l ≡ ys → take (begins fs (suc k)) l' ≡ ys ++ row_bytes (field fs k).width v'
row-next fs k l l' v v' ys e f = row-after (field fs k).width (begins fs k) (field fs k).count (begins fs (suc k)) l l' v v' ys e f (begins-suc fs k)
