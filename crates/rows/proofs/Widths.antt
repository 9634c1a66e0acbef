-- Numbers in bytes, for every width: what is written reads back, what is read writes back, and a number of m + n bytes is one of m and
-- one of n. By recursion on the width. Assumes nothing.
use mathlib.Core.Path.{◌≡◌, refl, ap}
use mathlib.Core.List.{List, [], ◌∷◌, ◌++◌}
use Prim.Native.Nat.{ℕ, zero, suc, ◌+◌, ◌*◌, ◌/◌, ◌%◌, ◌^◌, ◌<◌, ◌≤◌}
use native.Mathlib.Nat.{zero-add, add-zero, add-suc, suc-add, mul_assoc, pow-suc, pow-succ', div-lt_iff_lt-mul}
use native.Mathlib.Omega.{arith}
use lib.ListN.{length, take, drop}
use lib.Dec.{lit<}
use lib.Seq.{drop-cons, get_or-append-add}
use Rattle.lists.specs.Lists.{at}
use Rattle.rows.specs.Rows.{word, bytes}

-- ---- one byte

pub word-one : (xs : List ℕ) (k : ℕ) → word 1 xs k ≡ at xs k
unfolding word
word-one xs k = omega arith

-- ---- two numbers side by side

-- 256 to the suc m times x
next_power : (m x : ℕ) → 256 ^ suc m * x ≡ 256 * (256 ^ m * x)
next_power m x = rw (pow-succ' 256 m) (mul_assoc 256 (256 ^ m) x)

pub word_split : (m n : ℕ) (xs : List ℕ) (k : ℕ) → word (m + n) xs k ≡ word m xs k + 256 ^ m * word n xs (k + m)
unfolding word
word_split zero n xs k = rw (zero-add n, add-zero k) (omega arith)
word_split (suc m) n xs k =
    let e : suc k + m ≡ k + suc m = omega arith in
    rw (suc-add m n, word_split m n xs (suc k), e, next_power m (word n xs (k + suc m))) (omega arith)

pub bytes-split : (m n l h : ℕ) → l < 256 ^ m → bytes (m + n) (l + 256 ^ m * h) ≡ bytes m l ++ bytes n h
unfolding bytes
bytes-split zero n l h b = let e : l + 256 ^ 0 * h ≡ h = omega arith in rw (zero-add n, e)
bytes-split (suc m) n l h b =
    let x = 256 ^ m * h in
    let p : (l + 256 * x) % 256 ≡ l % 256 = omega arith in
    let q : (l + 256 * x) / 256 ≡ l / 256 + x = omega arith in
    rw (suc-add m n, next_power m h, p, q, bytes-split m n (l / 256) h ((div-lt_iff_lt-mul (lit< tt)).1 (rw (pow-suc 256 m) at b)))

-- ---- written, then read

pub length-bytes : (n v : ℕ) → length (bytes n v) ≡ n
unfolding bytes
length-bytes zero v = refl
length-bytes (suc n) v = ap suc (length-bytes n (v / 256))

pub word-shift : (n : ℕ) (ps xs : List ℕ) (k : ℕ) → word n (ps ++ xs) (length ps + k) ≡ word n xs k
unfolding word
word-shift zero ps xs k = refl
word-shift (suc n) ps xs k = rw (get_or-append-add ps xs k 0, ← (add-suc (length ps) k), word-shift n ps xs (suc k))

pub word_bytes : (n v : ℕ) (xs : List ℕ) → v < 256 ^ n → word n (bytes n v ++ xs) 0 ≡ v
unfolding word bytes
word_bytes zero v xs h = omega arith
word_bytes (suc n) v xs h =
    rw (word-shift n (v % 256 ∷ []) (bytes n (v / 256) ++ xs) 0, word_bytes n (v / 256) xs ((div-lt_iff_lt-mul (lit< tt)).1 (rw (pow-suc 256 n) at h)))
    (omega arith)

-- ---- read, then written

pub bytes_word : (n : ℕ) (xs : List ℕ) (k : ℕ) → ((j : ℕ) → at xs j < 256) → k + n ≤ length xs → bytes n (word n xs k) ≡ take n (drop k xs)
unfolding word bytes
bytes_word zero xs k b h = refl
bytes_word (suc n) xs k b h =
    let l = b k in
    let m = word n xs (suc k) in
    let p : (at xs k + 256 * m) % 256 ≡ at xs k = omega arith in
    let q : (at xs k + 256 * m) / 256 ≡ m = omega arith in
    rw (drop-cons xs k 0 (omega arith), p, q, bytes_word n xs (suc k) b (omega arith))

-- ---- bounds

pub bytes_small : (n v k : ℕ) → at (bytes n v) k < 256
unfolding bytes
bytes_small zero v k = omega arith
bytes_small (suc n) v zero = omega arith
bytes_small (suc n) v (suc k) = bytes_small n (v / 256) k

pub word_small : (n : ℕ) (xs : List ℕ) (k : ℕ) → ((j : ℕ) → at xs j < 256) → word n xs k < 256 ^ n
unfolding word
word_small zero xs k b = omega arith
word_small (suc n) xs k b =
    let l = b k in
    let r = word_small n xs (suc k) b in
    rw (pow-suc 256 n) (omega arith)
