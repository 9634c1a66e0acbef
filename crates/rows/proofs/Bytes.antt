-- The low byte first, as the library has it and as the record's layout does, for every width. Assumes nothing.
use mathlib.Core.Path.{◌≡◌, refl, sym, ap, ◌∙◌}
use mathlib.Core.List.{List, ◌++◌}
use Prim.Native.Nat.{ℕ, zero, suc, ◌+◌, ◌-◌, ◌/◌, ◌%◌, ◌^◌, ◌≤◌}
use native.Mathlib.Nat.{add-zero, mul_comm, div-one, div-div-eq-div-mul, pow-suc}
use native.Mathlib.Omega.{arith}
use borrow.Rule.Slice.PartMut.{put_mid}
use lib.ListN.{length, get_or, take, drop}
use lib.Seq.{get_or-take, get_or-drop, length-take-le, take-append-add}
use Rattle.std.proofs.lemmas.List.{take_at}
use Rattle.std.specs.Int.{byte_at, byte_worth, bytes_low_first, sum_through}
use Rattle.rows.specs.Rows.{word, bytes}
use Rattle.rows.proofs.Widths.{word-one, word_split, length-bytes}

-- a number of k + 1 bytes is what its bytes are worth
pub worth : (xs bs : List ℕ) (place k : ℕ) → ((i : ℕ) → i ≤ k → get_or bs i 0 ≡ get_or xs (place + i) 0) → sum_through (λ i. byte_worth i (get_or bs i 0)) k ≡ word (suc k) xs place
worth xs bs place zero h = h 0 (omega arith) ∙ ap (λ j. get_or xs j 0) (add-zero place) ∙ sym (word-one xs place)
worth xs bs place (suc k) h =
    let before : sum_through (λ i. byte_worth i (get_or bs i 0)) k ≡ word (suc k) xs place = worth xs bs place k (λ i l. h i (omega arith)) in
    let split = word_split (suc k) 1 xs place in
    let e : suc k + 1 ≡ suc (suc k) = omega arith in
    rw (← e, split, before, h (suc k) (omega arith), word-one xs (place + suc k)) (ap (λ n. word (suc k) xs place + n) (mul_comm (get_or xs (place + suc k) 0) (256 ^ suc k)))

-- and so is one whose bytes are the first k + 1 from a place
pub first-worth : (xs bs : List ℕ) (place k : ℕ) → bs ≡ take (suc k) (take (length xs - place) (drop place xs)) → place + suc k ≤ length xs → sum_through (λ i. byte_worth i (get_or bs i 0)) k ≡ word (suc k) xs place
first-worth xs bs place k e h = worth xs bs place k (λ i l.
    let rest = take (length xs - place) (drop place xs) in
    ap (λ b. get_or b i 0) e
    ∙ get_or-take (suc k) rest i 0 (omega arith)
    ∙ get_or-take (length xs - place) (drop place xs) i 0 (omega arith)
    ∙ get_or-drop place xs i 0)

-- the bytes of a number, from the byte i on
byte : (i n : ℕ) → byte_at i n ≡ n / 256 ^ i % 256
byte zero n = ap (λ m. m % 256) (sym (div-one n))
byte (suc i) n = refl

low-bytes : (i k n : ℕ) → bytes_low_first i k n ≡ bytes k (n / 256 ^ i)
unfolding bytes
low-bytes i zero n = refl
low-bytes i (suc k) n =
    let next : n / 256 ^ i / 256 ≡ n / 256 ^ suc i = div-div-eq-div-mul n (256 ^ i) 256 ∙ ap (λ m. n / m) (sym (pow-suc 256 i)) in
    rw (byte i n, low-bytes (suc i) k n, next)

-- put in their place they stand after what is before it
pub put-low : (xs bs : List ℕ) (place k n : ℕ) → place ≤ length xs → bs ≡ bytes_low_first 0 k n → take (place + k) (put_mid place (place + k - place) xs bs) ≡ take place xs ++ bytes k n
put-low xs bs place k n h e =
    let after = drop (place + k - place) (drop place xs) in
    let low : bs ≡ bytes k n = e ∙ low-bytes 0 k n ∙ ap (bytes k) (div-one n) in
    ap (λ m. take (m + k) (take place xs ++ (bs ++ after))) (sym (length-take-le place xs h))
    ∙ take-append-add (take place xs) (bs ++ after) k
    ∙ ap (λ l. take place xs ++ l) (take_at bs after k (ap length low ∙ length-bytes k n) ∙ low)
